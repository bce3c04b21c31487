use Rattle.std.proofs.Common.{◌≡◌, ℕ, List, drop, None}
use Rattle.std.specs.FinMap as finite
use Rattle.zk_mend.specs.Following.{given_from}
use Rattle.zk_mend.proofs.owners.Owners.given.Given as goal

abbrev pub invariant-loop-path : goal.invariant-loop-path
invariant-loop-path l = (q : List ℕ) → given_from (finite.get l.owners q) (drop l.path-index l.given) q ≡ given_from None l.given q
