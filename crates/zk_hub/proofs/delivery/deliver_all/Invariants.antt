-- The news so far is delivered.
use Rattle.std.proofs.Common.{◌≡◌, ◌++◌}
use Rattle.std.specs.Vec.Iter.{into_iter_items}
use Rattle.zk_hub.specs.Deliveries.{outputs_of, left_after}
use Rattle.zk_hub.proofs.delivery.deliver_all.Given as goal

abbrev pub invariant-loop-one : goal.invariant-loop-one
invariant-loop-one g l = record {
  outputs : l.outputs.items ++ outputs_of (into_iter_items l.one-iterator) l.hub ≡ outputs_of l.fn.news.items l.fn.hub;
  hub : left_after (into_iter_items l.one-iterator) l.hub ≡ left_after l.fn.news.items l.fn.hub;
}
