-- No request so far waits for the tag.
use Rattle.std.proofs.Common.{◌≡◌, ◌++◌, take, drop, find}
use Rattle.zk_hub.specs.Hubs.{waits_for, with_result}
use Rattle.zk_hub.proofs.hub.complete_in.Given as goal

abbrev pub invariant-loop-index : goal.invariant-loop-index
invariant-loop-index g l = record {
  same : l.requests.items ≡ l.fn.requests.items;
  completed : with_result l.tag l.outcome l.fn.requests.items ≡ take l.index l.fn.requests.items ++ with_result l.tag l.outcome (drop l.index l.fn.requests.items);
  found : find (waits_for l.tag) l.fn.requests.items ≡ find (waits_for l.tag) (drop l.index l.fn.requests.items);
}
