-- The servers of a world, by their numbers.
use Rattle.std.proofs.Common.{◌≡◌, ℕ, zero, suc, ◌-◌, ◌<◌, ◌≤◌, true, cond, List, [], ◌∷◌, length, get_or, slice_get, Some, None, sym, ap, ◌∙◌, arith}
use Rattle.std.proofs.lemmas.Bool.Decides.{nat_tests}
use Rattle.zab_broadcast.specs.Guards.{EndsBelow}
use Rattle.zab_agreement_laws.specs.Promises.{EachEndsBelow}
use Rattle.zab_model.specs.ProcessStates.{ProcessState}
use Rattle.zab_model.specs.Worlds.{is_server}

is_one : (servers number : ℕ) → 0 < number → number ≤ servers → is_server servers number ≡ true
is_one servers number above within = grind (arith, nat_tests)

there : (servers : List ProcessState) (i : ℕ) (it : ProcessState) → i < length servers → it ≡ get_or servers i it → slice_get servers i ≡ Some it
there [] i it below is = absurd (omega (arith, below))
there (x ∷ servers) zero it below is = ap (λ (y : ProcessState). Some y) (sym is)
there (x ∷ servers) (suc i) it below is = there servers i it (omega (arith, below)) is

-- a server that has a number is one of them
pub ends_below : (servers : List ProcessState) (number : ℕ) (it : ProcessState) → EachEndsBelow servers → 0 < number → number ≤ length servers → it ≡ get_or servers (number - 1) it → EndsBelow it.state
ends_below servers number it each above within is =
    each number it
    (ap (λ b. cond b (slice_get servers (number - 1)) None) (is_one (length servers) number above within)
    ∙ there servers (number - 1) it (omega (arith, above, within)) is)
