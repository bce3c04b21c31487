use Rattle.std.proofs.Common.{◌≡◌, map, take}
use Rattle.std.specs.FinMap as finite
use Rattle.zk_state_snapshot.specs.StateSnapshots.{placed}
use Rattle.zk_stored_owners.specs.StoredOwners.{node_with}
use Rattle.zk_stored_owners.proofs.nodes.nodes_with.Given as goal

abbrev pub invariant-loop-entry : goal.invariant-loop-entry
invariant-loop-entry l = l.nodes.items ≡ map (node_with (finite.get l.fn.owners)) (map placed (take l.entry-index l.fn.entries))
