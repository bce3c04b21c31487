-- A write to one element of a list.
use Rattle.std.proofs.Common.{◌≡◌, ◌∙◌, ℕ, ◌+◌, ◌<◌, List, ◌∷◌, ◌++◌, length, take, drop, slice_set, sym, ap}
use Rattle.std.proofs.lemmas.List.{take-append-drop, take-set, drop-set}

pub set_is : {X : Type 0} → (xs : List X) (i : ℕ) (y : X) → i < length xs → slice_set xs i y ≡ take i xs ++ y ∷ drop (i + 1) xs
set_is xs i y h = sym (take-append-drop i (slice_set xs i y)) ∙ ap (λ front. front ++ drop i (slice_set xs i y)) (take-set xs i y) ∙ ap (λ back. take i xs ++ back) (drop-set xs i y h)
