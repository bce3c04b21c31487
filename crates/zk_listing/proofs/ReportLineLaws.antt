-- The first line of a text.
use Rattle.std.proofs.Common.{◌≡◌, ◌≢◌, ℕ, suc, ◌+◌, ◌==◌, ◌<◌, eqb, Bool, true, false, List, [], ◌∷◌, length, refl, ap, arith}
use Rattle.std.proofs.lemmas.Bool.{eqb-true}
use Rattle.std.specs.List.{before_first, after_first, position_or_len}
use Rattle.zk_listing.specs.Lines.{begun_by, lines_of}

abbrev is_newline : ℕ → Bool
is_newline b = b == 10

one_more : (n : ℕ) → 1 + n ≡ suc n
one_more n = omega arith

two_more : (n : ℕ) → 1 + n + 1 ≡ suc (n + 1)
two_more n = omega arith

begun_alone : (b : ℕ) (bs : List ℕ) → (bs ≢ [] → lines_of bs ≡ bs ∷ []) → begun_by b (lines_of bs) ≡ (b ∷ bs) ∷ []
unfolding lines_of
begun_alone b [] rest = refl
begun_alone b (c ∷ cs) rest = ap (begun_by b) (rest (λ e. cc))

only_line-cons : (b : ℕ) (bs : List ℕ) (v : Bool) → is_newline b ≡ v → (position_or_len is_newline bs ≡ length bs → bs ≢ [] → lines_of bs ≡ bs ∷ []) → position_or_len is_newline (b ∷ bs) ≡ length (b ∷ bs) → lines_of (b ∷ bs) ≡ (b ∷ bs) ∷ []
unfolding lines_of
only_line-cons b bs true e rest h = let bad : 0 ≡ suc (length bs) = rw e at h in absurd (omega arith)
only_line-cons b bs false e rest h =
    let inner : 1 + position_or_len is_newline bs ≡ suc (length bs) = rw e at h in
    rw e (begun_alone b bs (rest (omega arith)))

-- a text without a newline is one line
pub only_line : (text : List ℕ) → position_or_len is_newline text ≡ length text → text ≢ [] → lines_of text ≡ text ∷ []
only_line [] h filled = absurd (filled refl)
only_line (b ∷ bs) h filled = only_line-cons b bs (is_newline b) refl (only_line bs) h

first_line-cons : (b : ℕ) (bs : List ℕ) (v : Bool) → is_newline b ≡ v → (position_or_len is_newline bs < length bs → lines_of bs ≡ before_first is_newline bs ∷ lines_of (after_first is_newline bs)) → position_or_len is_newline (b ∷ bs) < length (b ∷ bs) → lines_of (b ∷ bs) ≡ before_first is_newline (b ∷ bs) ∷ lines_of (after_first is_newline (b ∷ bs))
unfolding lines_of
first_line-cons b bs true e rest h = rw e refl
first_line-cons b bs false e rest h =
    let inner : 1 + position_or_len is_newline bs < suc (length bs) = rw e at h in
    rw (e, two_more (position_or_len is_newline bs), one_more (position_or_len is_newline bs)) (ap (begun_by b) (rest (omega arith)))

-- any other text starts with the line before the first newline
pub first_line : (text : List ℕ) → position_or_len is_newline text < length text → lines_of text ≡ before_first is_newline text ∷ lines_of (after_first is_newline text)
first_line [] h = absurd (omega arith)
first_line (b ∷ bs) h = first_line-cons b bs (is_newline b) refl (first_line bs) h

-- ---- whether the text is empty

pub is_filled : (rest : List ℕ) → eqb (length rest) 0 ≡ false → rest ≢ []
is_filled [] h = λ e. let bad : true ≡ false = h in cc
is_filled (b ∷ bs) h = λ e. cc

pub is_ended : (rest : List ℕ) → eqb (length rest) 0 ≡ true → rest ≡ []
is_ended [] h = refl
is_ended (b ∷ bs) h = absurd (let bad : suc (length bs) ≡ 0 = eqb-true (suc (length bs)) 0 h in omega arith)
