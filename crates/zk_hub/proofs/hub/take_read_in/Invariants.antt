-- No request so far is the connection's.
use Rattle.std.proofs.Common.{◌≡◌, ◌++◌, take, drop, find}
use Rattle.zk_hub.specs.Hubs.{is_of, without_read}
use Rattle.zk_hub.proofs.hub.take_read_in.Given as goal

abbrev pub invariant-loop-index : goal.invariant-loop-index
invariant-loop-index g l = record {
  same : l.requests.items ≡ l.fn.requests.items;
  rest : without_read l.connection l.fn.requests.items ≡ take l.index l.fn.requests.items ++ without_read l.connection (drop l.index l.fn.requests.items);
  found : find (is_of l.connection) l.fn.requests.items ≡ find (is_of l.connection) (drop l.index l.fn.requests.items);
}
