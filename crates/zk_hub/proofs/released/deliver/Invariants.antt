use Rattle.std.proofs.Common.{◌≡◌, ◌++◌, map}
use Rattle.std.specs.Vec.Iter.{into_iter_items}
use Rattle.zk_hub.specs.Outcomes.{hub_news}
use Rattle.zk_hub.specs.Deliveries.{left_after, outputs_of}
use Rattle.zk_hub.proofs.released.deliver.Given as goal

abbrev pub invariant-loop-one : goal.invariant-loop-one
invariant-loop-one g l = record {
  outputs : l.outputs.items ++ outputs_of (map hub_news (into_iter_items l.one-iterator)) l.hub ≡ outputs_of (map hub_news l.fn.news.items) l.fn.hub;
  hub : left_after (map hub_news (into_iter_items l.one-iterator)) l.hub ≡ left_after (map hub_news l.fn.news.items) l.fn.hub;
}
