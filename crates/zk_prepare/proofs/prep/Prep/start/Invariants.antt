use Rattle.std.proofs.Common.{◌≡◌, false, drop}
use Rattle.zk_table.specs.Histories.{state_after}
use Rattle.zk_prepare.proofs.prep.Prep.start.Given as goal

abbrev pub invariant-loop-txn : goal.invariant-loop-txn
invariant-loop-txn l = (state_after l.ahead.state (drop l.txn-index l.tail) ≡ state_after l.committed.state l.tail) × (l.ahead.failed ≡ false)
