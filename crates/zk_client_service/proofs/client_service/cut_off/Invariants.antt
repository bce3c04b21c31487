-- The ports so far have their connections cut off.
use Rattle.std.proofs.Common.{◌≡◌, ◌++◌, length, map, take, drop}
use Rattle.zk_client_service.specs.Ports.{cut_off, ports_of}
use Rattle.zk_client_service.proofs.client_service.cut_off.Given as goal

abbrev pub invariant-loop-index : goal.invariant-loop-index
invariant-loop-index l = record {
  ports : ports_of l.ports.items ≡ map (cut_off l.selection) (take l.index (ports_of l.fn.ports.items)) ++ drop l.index (ports_of l.fn.ports.items);
  count : length l.ports.items ≡ length l.fn.ports.items;
}
