-- No connection so far has the number.
use Rattle.std.proofs.Common.{◌≡◌, ◌++◌, find, take, drop}
use Rattle.zk_client_port.specs.Outputs.{is_numbered, with_first}
use Rattle.zk_client_port.specs.Results.{with_outcome}
use Rattle.zk_client_port.proofs.outputs.write_outcome_to.Given as goal

abbrev pub invariant-loop-index : goal.invariant-loop-index
invariant-loop-index l = record {
  same : l.connections.items ≡ l.fn.connections.items;
  changed : with_first (is_numbered l.number) (with_outcome l.admission l.fn.last l.expected l.outcome) l.fn.connections.items ≡ take l.index l.fn.connections.items ++ with_first (is_numbered l.number) (with_outcome l.admission l.fn.last l.expected l.outcome) (drop l.index l.fn.connections.items);
  found : find (is_numbered l.number) l.fn.connections.items ≡ find (is_numbered l.number) (drop l.index l.fn.connections.items);
}
