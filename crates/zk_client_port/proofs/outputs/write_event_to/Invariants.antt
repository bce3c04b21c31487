-- No connection so far has the number.
use Rattle.std.proofs.Common.{◌≡◌, ◌++◌, take, drop}
use Rattle.zk_client_port.specs.Outputs.{is_numbered, with_first}
use Rattle.zk_connections.specs.Connections.{with_event}
use Rattle.zk_client_port.proofs.outputs.write_event_to.Given as goal

abbrev pub invariant-loop-index : goal.invariant-loop-index
invariant-loop-index l = record {
  same : l.connections.items ≡ l.fn.connections.items;
  changed : with_first (is_numbered l.number) (with_event l.event.kind l.event.path) l.fn.connections.items ≡ take l.index l.fn.connections.items ++ with_first (is_numbered l.number) (with_event l.event.kind l.event.path) (drop l.index l.fn.connections.items);
}
