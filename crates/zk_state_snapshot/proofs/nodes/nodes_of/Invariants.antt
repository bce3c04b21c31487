use Rattle.std.proofs.Common.{◌≡◌, map, take}
use Rattle.zk_state_snapshot.specs.StateSnapshots.{placed, stored_in}
use Rattle.zk_state_snapshot.proofs.nodes.nodes_of.Given as goal

abbrev pub invariant-loop-entry : goal.invariant-loop-entry
invariant-loop-entry l = l.nodes.items ≡ map (stored_in l.fn.table) (map placed (take l.entry-index l.fn.entries))
