use Rattle.std.proofs.Common.{◌≡◌, take}
use Rattle.zk_jute.proofs.copies.copies.Given as goal

abbrev pub invariant-loop-txn : goal.invariant-loop-txn
invariant-loop-txn l = l.copies.items ≡ take l.txn-index l.txns
