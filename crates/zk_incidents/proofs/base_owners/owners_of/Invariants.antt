-- The first of the remaining snapshots that is whole is the first of all.
use Rattle.std.proofs.Common.{length}
use Rattle.zk_incidents.specs.FirstOwners.{OwnsFirst}
use Rattle.zk_incidents.specs.Owners.{Owned}
use Rattle.zk_incidents.proofs.base_owners.owners_of.Given as goal

abbrev pub invariant-loop-rest : goal.invariant-loop-rest
invariant-loop-rest g l = (owned : Owned) → OwnsFirst (g.S.Folder.bytes_in l.snapshots) l.rest owned → OwnsFirst (g.S.Folder.bytes_in l.snapshots) l.fn.held owned

abbrev pub decreases-loop-rest : goal.decreases-loop-rest
decreases-loop-rest g l = length l.rest
