use Rattle.std.proofs.Common.{◌≡◌, false, drop}
use Rattle.zk_table.specs.Histories.{state_after}
use Rattle.zk_model.proofs.preparer.take_all.Given as goal

abbrev pub invariant-loop-txn : goal.invariant-loop-txn
invariant-loop-txn l = (state_after l.prep.state (drop l.txn-index l.txns) ≡ state_after l.fn.prep.state l.txns) × (l.prep.failed ≡ false)
