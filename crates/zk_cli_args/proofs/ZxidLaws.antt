-- Zeros before digits.
use Rattle.std.proofs.Common.{◌≡◌, ◌-◌, ◌<◌, ◌≤◌, ℕ, zero, suc, List, [], ◌∷◌, ◌++◌, replicate, arith, refl, sym, ap, ◌∙◌, append_assoc, append-nil}

pub one_zero : (xs : List ℕ) (left : ℕ) → 0 < left → (xs ++ 48 ∷ []) ++ replicate (left - 1) 48 ≡ xs ++ replicate left 48
one_zero xs zero lt = absurd (omega (arith, lt))
one_zero xs (suc left) lt =
    let one : suc left - 1 ≡ left = omega arith in
    ap (λ n. (xs ++ 48 ∷ []) ++ replicate n 48) one ∙ append_assoc xs (48 ∷ []) (replicate left 48)

pub no_zero : (xs ys : List ℕ) (left : ℕ) → left ≤ 0 → xs ++ replicate left 48 ≡ ys → xs ≡ ys
no_zero xs ys zero le e = sym (append-nil xs) ∙ e
no_zero xs ys (suc left) le e = absurd (omega (arith, le))
