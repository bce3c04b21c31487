-- The lines of bytes that arrive in chunks.
use Rattle.std.proofs.Common.{◌≡◌, ℕ, suc, ◌+◌, ◌==◌, ◌<◌, ◌≤◌, Bool, true, false, List, [], ◌∷◌, ◌++◌, length, take, drop, Some, None, refl, ap, subst, cond, nat_lt, arith}
use Rattle.std.proofs.lemmas.Bool.{ltb-true, ltb-false, eqb-true}
use Rattle.std.proofs.lemmas.Option.{cond_some}
use Rattle.std.specs.List.{position, position_or_len}
use Rattle.zk_line_protocol.specs.Lines.{line, begun_by, lines_in, IsUnended}

abbrev is_newline : ℕ → Bool
is_newline b = b == 10

-- ---- the first line

pub one_line : (text more : List ℕ) → IsUnended text → lines_in (text ++ 10 ∷ more) ≡ line text true ∷ lines_in more
unfolding lines_in
one_line [] more u = refl
one_line (b ∷ bs) more u = rw u.0 (ap (begun_by b) (one_line bs more u.1))

pub last_line : (b : ℕ) (bs : List ℕ) → IsUnended (b ∷ bs) → lines_in (b ∷ bs) ≡ line (b ∷ bs) false ∷ []
unfolding lines_in
last_line b [] u = rw u.0 refl
last_line b (c ∷ cs) u = rw u.0 (ap (begun_by b) (last_line c cs u.1))

pub no_line : lines_in [] ≡ []
unfolding lines_in
no_line = refl

pub unended_more : (a b : List ℕ) → IsUnended a → IsUnended b → IsUnended (a ++ b)
unended_more [] b u v = v
unended_more (x ∷ xs) b u v = (u.0, unended_more xs b u.1 v)

-- ---- the place of the first newline

two_more : (n : ℕ) → 1 + n + 1 ≡ suc (n + 1)
two_more n = omega arith

suc_one : (n : ℕ) → 1 + n ≡ suc n
suc_one n = omega arith

unended_front-cons : (b : ℕ) (bs : List ℕ) (v : Bool) → is_newline b ≡ v → IsUnended (take (position_or_len is_newline bs) bs) → IsUnended (take (position_or_len is_newline (b ∷ bs)) (b ∷ bs))
unended_front-cons b bs true e rest = rw e tt
unended_front-cons b bs false e rest = rw (e, suc_one (position_or_len is_newline bs)) (e, rest)

pub unended_front : (bs : List ℕ) → IsUnended (take (position_or_len is_newline bs) bs)
unended_front [] = tt
unended_front (b ∷ bs) = unended_front-cons b bs (is_newline b) refl (unended_front bs)

cut-cons : (b : ℕ) (bs : List ℕ) (v : Bool) → is_newline b ≡ v → (position_or_len is_newline bs < length bs → bs ≡ take (position_or_len is_newline bs) bs ++ 10 ∷ drop (position_or_len is_newline bs + 1) bs)
    → position_or_len is_newline (b ∷ bs) < length (b ∷ bs) → b ∷ bs ≡ take (position_or_len is_newline (b ∷ bs)) (b ∷ bs) ++ 10 ∷ drop (position_or_len is_newline (b ∷ bs) + 1) (b ∷ bs)
cut-cons b bs true e rest h = rw e (ap (λ (x : ℕ). x ∷ bs) (eqb-true b 10 e))
cut-cons b bs false e rest h =
    let inner : 1 + position_or_len is_newline bs < suc (length bs) = rw e at h in
    rw (e, two_more (position_or_len is_newline bs), suc_one (position_or_len is_newline bs)) (ap (λ (xs : List ℕ). b ∷ xs) (rest (omega arith)))

cut : (bs : List ℕ) → position_or_len is_newline bs < length bs → bs ≡ take (position_or_len is_newline bs) bs ++ 10 ∷ drop (position_or_len is_newline bs + 1) bs
cut [] h = absurd (omega arith)
cut (b ∷ bs) h = cut-cons b bs (is_newline b) refl (cut bs) h

none_ends-cons : (b : ℕ) (bs : List ℕ) (v : Bool) → is_newline b ≡ v → (length bs ≤ position_or_len is_newline bs → IsUnended bs) → length (b ∷ bs) ≤ position_or_len is_newline (b ∷ bs) → IsUnended (b ∷ bs)
none_ends-cons b bs true e rest h = let bad : suc (length bs) ≤ 0 = rw e at h in absurd (omega arith)
none_ends-cons b bs false e rest h = let inner : suc (length bs) ≤ 1 + position_or_len is_newline bs = rw e at h in (e, rest (omega arith))

none_ends : (bs : List ℕ) → length bs ≤ position_or_len is_newline bs → IsUnended bs
none_ends [] h = tt
none_ends (b ∷ bs) h = none_ends-cons b bs (is_newline b) refl (none_ends bs) h

pub split_at_newline : (bs : List ℕ) (at : ℕ) → position is_newline bs ≡ Some at → (bs ≡ take at bs ++ 10 ∷ drop (at + 1) bs) × IsUnended (take at bs)
split_at_newline bs at h =
    let p = cond_some (nat_lt (position_or_len is_newline bs) (length bs)) (position_or_len is_newline bs) at h in
    subst (λ (n : ℕ). (bs ≡ take n bs ++ 10 ∷ drop (n + 1) bs) × IsUnended (take n bs)) p.1 (cut bs (ltb-true (position_or_len is_newline bs) (length bs) p.0), unended_front bs)

none_by : (b : Bool) (n : ℕ) → cond b (Some n) None ≡ None → b ≡ false
none_by true n h = absurd (let bad : Some n ≡ None = h in cc)
none_by false n h = refl

pub no_newline : (bs : List ℕ) → position is_newline bs ≡ None → IsUnended bs
no_newline bs h = none_ends bs (ltb-false (position_or_len is_newline bs) (length bs) (none_by (nat_lt (position_or_len is_newline bs) (length bs)) (position_or_len is_newline bs) h))
