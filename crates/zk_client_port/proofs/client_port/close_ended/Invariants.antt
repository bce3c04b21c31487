-- The connections so far are closed, if their session has ended.
use Rattle.std.proofs.Common.{◌≡◌, ◌++◌, map, take, drop}
use Rattle.zk_client_port.specs.Ports.{closed_if}
use Rattle.zk_client_port.proofs.client_port.close_ended.Given as goal

abbrev pub invariant-loop-index : goal.invariant-loop-index
invariant-loop-index l = l.connections.items ≡ map (closed_if l.ended) (take l.index l.fn.connections.items) ++ drop l.index l.fn.connections.items
