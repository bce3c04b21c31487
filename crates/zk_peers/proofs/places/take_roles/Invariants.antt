-- The servers so far have their roles.
use Rattle.std.proofs.Common.{◌≡◌, length}
use Rattle.zk_peers.specs.Peers.{FirstTakeRoles}
use Rattle.zk_peers.proofs.places.take_roles.Given as goal

abbrev pub invariant-loop-index : goal.invariant-loop-index
invariant-loop-index g l = record {
  roles : FirstTakeRoles g.S.Storage.may_recover g.S.Storage.boots l.leader l.index l.fn.places.items l.places.items;
  servers : length l.places.items ≡ length l.fn.places.items;
}
