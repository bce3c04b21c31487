use Rattle.std.proofs.Common.{◌≡◌, ◌++◌, map, drop}
use Rattle.zk_state_snapshot.specs.StateSnapshots.{placed}
use Rattle.zk_stored_owners.specs.StoredOwners.{places_of}
use Rattle.zk_stored_owners.proofs.nodes.entries_with.Given as goal

abbrev pub invariant-loop-index : goal.invariant-loop-index
invariant-loop-index l = map placed l.replaced.items ++ places_of (map placed (drop l.index l.fn.entries)) (drop l.index l.fn.nodes) ≡ places_of (map placed l.fn.entries) l.fn.nodes
