-- The connections so far are cut off, if selected.
use Rattle.std.proofs.Common.{◌≡◌, ◌++◌, map, take, drop}
use Rattle.zk_client_port.specs.Ports.{cut_off_if}
use Rattle.zk_client_port.proofs.client_port.cut_off_in.Given as goal

abbrev pub invariant-loop-index : goal.invariant-loop-index
invariant-loop-index l = l.connections.items ≡ map (cut_off_if l.selection) (take l.index l.fn.connections.items) ++ drop l.index l.fn.connections.items
