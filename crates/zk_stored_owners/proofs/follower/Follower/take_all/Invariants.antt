use Rattle.std.proofs.Common.{◌≡◌, ℕ, List, drop}
use Rattle.std.specs.FinMap as finite
use Rattle.zk_stored_owners.specs.StoredOwners.{followed_over}
use Rattle.zk_stored_owners.proofs.follower.Follower.take_all.Given as goal

abbrev pub invariant-loop-entry : goal.invariant-loop-entry
invariant-loop-entry l = (path : List ℕ) → followed_over l.fn.upto path (l.self.last, finite.get l.self.owners path) (drop l.entry-index l.fn.entries) ≡ followed_over l.fn.upto path (l.fn.self.last, finite.get l.fn.self.owners path) l.fn.entries
