-- The first elements of the first ones.
use Rattle.std.proofs.Common.{◌≡◌, ℕ, zero, suc, ◌≤◌, List, [], ◌∷◌, length, take, refl, ap, arith}

pub take_less : {A : Type 0} (count n : ℕ) (l : List A) → count ≤ n → take count (take n l) ≡ take count l
take_less zero n l low = refl
take_less (suc count) zero l low = absurd (omega (arith, low))
take_less (suc count) (suc n) [] low = refl
take_less (suc count) (suc n) (x ∷ l) low = ap (λ k. x ∷ k) (take_less count n l (omega (arith, low)))

pub take_all : {A : Type 0} (count : ℕ) (l : List A) → length l ≤ count → take count l ≡ l
take_all zero [] low = refl
take_all zero (x ∷ l) low = absurd (omega (arith, low))
take_all (suc count) [] low = refl
take_all (suc count) (x ∷ l) low = ap (λ k. x ∷ k) (take_all count l (omega (arith, low)))
