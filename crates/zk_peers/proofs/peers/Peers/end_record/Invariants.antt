-- Nothing that contracts see has changed.
use Rattle.std.proofs.Common.{◌≡◌}
use Rattle.zk_peers.proofs.peers.Peers.end_record.Given as goal

abbrev pub invariant-loop-index : goal.invariant-loop-index
invariant-loop-index g l = l.self ≡ l.fn.self
