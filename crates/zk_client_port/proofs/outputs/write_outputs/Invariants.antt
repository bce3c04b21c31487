-- The outputs so far are written.
use Rattle.std.proofs.Common.{◌≡◌, ◌++◌}
use Rattle.std.specs.Vec.Iter.{into_iter_items}
use Rattle.zk_client_port.specs.Outputs.{after_outputs, gained_from}
use Rattle.zk_client_port.proofs.outputs.write_outputs.Given as goal

abbrev pub invariant-loop-output : goal.invariant-loop-output
invariant-loop-output l = record {
  connections : after_outputs l.admission l.fn.last (into_iter_items l.output-iterator) l.connections.items ≡ after_outputs l.fn.admission l.fn.last l.fn.outputs.items l.fn.connections.items;
  gained : l.gained.items ++ gained_from l.admission l.fn.last (into_iter_items l.output-iterator) l.connections.items ≡ gained_from l.fn.admission l.fn.last l.fn.outputs.items l.fn.connections.items;
}
