-- The winner so far.
use Rattle.std.proofs.Common.{take}
use Rattle.zk_peers.specs.Elections.{IsResult}
use Rattle.zk_peers.proofs.election.winner.Given as goal

abbrev pub invariant-loop-vote : goal.invariant-loop-vote
invariant-loop-vote l = IsResult l.best (take l.vote-index l.votes)
