-- The votes of the servers so far.
use Rattle.std.proofs.Common.{◌≡◌}
use Rattle.zk_peers.specs.Peers.{first_candidates}
use Rattle.zk_peers.proofs.peers.Peers.candidates.Given as goal

abbrev pub invariant-loop-index : goal.invariant-loop-index
invariant-loop-index g l = l.votes.items ≡ first_candidates l.self.cuts.items l.self.places.items l.index
