-- The sessions that the transactions so far close.
use Rattle.std.proofs.Common.{◌≡◌, take}
use Rattle.std.specs.List.{flat_map}
use Rattle.zk_host.specs.Delivered.{closed_by}
use Rattle.zk_host.proofs.closings.closed_by.Given as goal

abbrev pub invariant-loop-txn : goal.invariant-loop-txn
invariant-loop-txn l = l.sessions.items ≡ flat_map closed_by (take l.txn-index l.txns)
