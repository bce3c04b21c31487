-- The servers so far have started.
use Rattle.std.proofs.Common.{◌≡◌, ◌+◌, length}
use Rattle.std.specs.Vec.Iter.{into_iter_items}
use Rattle.zk_peers.proofs.Starting.{IsUnderWay}
use Rattle.zk_peers.proofs.peers.start_all.Given as goal

abbrev pub invariant-loop-storage : goal.invariant-loop-storage
invariant-loop-storage g l = record {
  started : IsUnderWay g.S.Storage.is_clean g.S.Storage.may_recover g.S.Storage.boots (length l.fn.storages.items) l.fn.storages.items l.places.items (into_iter_items l.storage-iterator);
  number : length l.places.items + length (into_iter_items l.storage-iterator) ≡ length l.fn.storages.items;
}
