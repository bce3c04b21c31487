-- Those of the servers so far that did not hear the leader follow it again.
use Rattle.std.proofs.Common.{◌≡◌, length}
use Rattle.zk_peers.specs.Peers.{FirstRejoin}
use Rattle.zk_peers.proofs.places.rejoin.Given as goal

abbrev pub invariant-loop-index : goal.invariant-loop-index
invariant-loop-index g l = record {
  rejoin : FirstRejoin g.S.Storage.may_recover g.S.Storage.boots l.cuts l.leader l.index l.fn.places.items l.places.items;
  servers : length l.places.items ≡ length l.fn.places.items;
}
