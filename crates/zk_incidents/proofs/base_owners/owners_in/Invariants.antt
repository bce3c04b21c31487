-- The nodes so far, and the remaining ones.
use Rattle.std.proofs.Common.{◌≡◌, [], drop}
use Rattle.zk_incidents.specs.FirstOwners.{owned_in}
use Rattle.zk_incidents.proofs.base_owners.owners_in.Given as goal

abbrev pub invariant-loop-one : goal.invariant-loop-one
invariant-loop-one l = owned_in l.owners (drop l.one-index l.stored) ≡ owned_in [] l.stored
