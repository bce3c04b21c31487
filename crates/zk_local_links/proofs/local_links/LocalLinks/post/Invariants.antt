-- The bytes for the servers so far are brought.
use Rattle.std.proofs.Common.{◌≡◌, ◌+◌, length}
use Rattle.std.specs.Vec.Iter.{into_iter_items}
use Rattle.zk_local_links.specs.LocalLinks.{posted_from}
use Rattle.zk_local_links.proofs.local_links.LocalLinks.post.Given as goal

abbrev pub invariant-loop-bytes : goal.invariant-loop-bytes
invariant-loop-bytes l = record {
  posted : posted_from l.reader l.writer (into_iter_items l.bytes-iterator) l.self ≡ posted_from 0 l.writer l.fn.outputs.items l.fn.self;
  number : l.reader + length (into_iter_items l.bytes-iterator) ≡ length l.fn.outputs.items;
}
