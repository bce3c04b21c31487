use Rattle.std.proofs.Common.{◌≡◌, ℕ, List, drop}
use Rattle.std.specs.FinMap as finite
use Rattle.zk_mend.specs.Following.{given_from}
use Rattle.zk_stored_owners.proofs.owners.Owners.set_all.Given as goal

abbrev pub invariant-loop-path : goal.invariant-loop-path
invariant-loop-path l = (q : List ℕ) → given_from (finite.get l.self q) (drop l.path-index l.fn.given) q ≡ given_from (finite.get l.fn.self q) l.fn.given q
