-- The replies and the rest so far, and those to come.
use Rattle.std.proofs.Common.{◌≡◌, ◌++◌, true}
use Rattle.std.specs.Vec.Iter.{into_iter_items}
use Rattle.zk_hub.specs.Sorting.{replies_from, kept_from}
use Rattle.zk_hub.proofs.hub.split_ready.Given as goal

abbrev pub invariant-loop-request : goal.invariant-loop-request
invariant-loop-request g l = record {
  replies : l.replies.items ++ replies_from l.ready l.connection (into_iter_items l.request-iterator) ≡ replies_from true l.fn.connection l.fn.requests.items;
  rest : l.rest.items ++ kept_from l.ready l.connection (into_iter_items l.request-iterator) ≡ kept_from true l.fn.connection l.fn.requests.items;
}
