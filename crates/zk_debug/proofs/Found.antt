-- A look-up in the rest of a list.
use Rattle.std.proofs.Common.{◌≡◌, ℕ, zero, suc, cond, List, [], ◌∷◌, drop, Some, ap, is_some}
use Rattle.std.specs.Prelude.{slice_get, Bool, unwrap_or}
use Rattle.std.proofs.lemmas.Bool.{false≢true}
use Rattle.std.specs.List.{find}

module _ {A : Type 0} (p : A → Bool) where
  pub find_here : (es : List A) (i : ℕ) (e : A) → slice_get es i ≡ Some e → find p (drop i es) ≡ cond (p e) (Some e) (find p (drop (suc i) es))
  find_here [] i e h = absurd (false≢true (ap is_some h))
  find_here (x ∷ es) zero e h = ap (λ y. cond (p y) (Some y) (find p es)) (ap (λ o. unwrap_or o x) h)
  find_here (x ∷ es) (suc i) e h = find_here es i e h
