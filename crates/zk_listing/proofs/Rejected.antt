-- A text with what is no lower-case digit encodes no bytes.
use Rattle.std.proofs.Common.{◌≡◌, ℕ, zero, suc, ◌+◌, ◌/◌, ◌%◌, ◌<◌, ◌⊎◌, inl, inr, Bool, true, false, ◌||◌, ◌&&◌, not, List, [], ◌∷◌, length, slice_index, Some, None, Result, Ok, Err, if◌then◌else◌, refl, sym, ap, ◌∙◌, arith}
use Rattle.std.specs.Char.{is_ascii_uppercase}
use Rattle.std.specs.List.{list_any}
use Rattle.std.proofs.lemmas.Bool.{and_parts, cases_lt}
use Rattle.hex.specs.Hex.{IsBytes, decode_of, decode_pairs, encode_lower, encode_with, hex_digit_value, pair_value, value_at}
use Rattle.hex.specs.declared.error.FromHexError.{FromHexError}
use Rattle.hex.specs.declared.error.FromHexError.TheVariants.{InvalidHexCharacter}
use Rattle.hex.proofs.HexLemmas.{decode_of-even, decode_of-encode_lower}
use Rattle.hex.proofs.Pairs.{decode_pairs-err_pair}
use Rattle.zk_listing.specs.Digits.{IsBad, bytes_in, bytes_of}
use Rattle.zk_listing.proofs.Spelling.{glyph}

-- a text has a capital, or `hex` rejects it
abbrev IsRejected : ℕ → List ℕ → Type 0
IsRejected i s = (list_any is_ascii_uppercase s ≡ true) ⊎ ((e : FromHexError) × (decode_pairs i s ≡ Err e))

abbrev PairFails : ℕ → ℕ → ℕ → Type 0
PairFails a b i = (e : FromHexError) × (pair_value a b i ≡ Err e)

first_fails : (a b i : ℕ) → hex_digit_value a ≡ None → PairFails a b i
first_fails a b i none = (InvalidHexCharacter a i, rw none refl)

second_by : (a b i : ℕ) (first : Result ℕ FromHexError) → value_at a i ≡ first → hex_digit_value b ≡ None → PairFails a b i
second_by a b i (Ok v) was none = (InvalidHexCharacter b (i + 1), rw (was, none) refl)
second_by a b i (Err e) was none = (e, rw was refl)

or_left : (a b : Bool) → a ≡ true → (a || b) ≡ true
or_left a b h = rw h refl

or_right : (a b : Bool) → b ≡ true → (a || b) ≡ true
or_right true b h = refl
or_right false b h = h

by_pair : (a b i : ℕ) (rest : List ℕ) → PairFails a b i → IsRejected i (a ∷ b ∷ rest)
by_pair a b i rest fails = inr (fails.0, decode_pairs-err_pair i a b fails.0 rest fails.1)

by_first : (a b i : ℕ) (rest : List ℕ) → IsBad a → IsRejected i (a ∷ b ∷ rest)
by_first a b i rest (inl none) = by_pair a b i rest (first_fails a b i none)
by_first a b i rest (inr upper) = inl (or_left _ _ upper)

by_second : (a b i : ℕ) (rest : List ℕ) → IsBad b → IsRejected i (a ∷ b ∷ rest)
by_second a b i rest (inl none) = by_pair a b i rest (second_by a b i (value_at a i) refl none)
by_second a b i rest (inr upper) = inl (or_right _ _ (or_left _ _ upper))

behind_pair : (a b i : ℕ) (rest : List ℕ) (e : FromHexError) (first : Result ℕ FromHexError) → pair_value a b i ≡ first → decode_pairs (i + 2) rest ≡ Err e → (fault : FromHexError) × (decode_pairs i (a ∷ b ∷ rest) ≡ Err fault)
unfolding decode_pairs
behind_pair a b i rest e (Ok v) was fails = (e, rw (was, fails) refl)
behind_pair a b i rest e (Err other) was fails = (other, rw was refl)

by_rest : (a b i : ℕ) (rest : List ℕ) → IsRejected (i + 2) rest → IsRejected i (a ∷ b ∷ rest)
by_rest a b i rest (inl upper) = inl (or_right _ _ (or_right _ _ upper))
by_rest a b i rest (inr fails) = inr (behind_pair a b i rest fails.0 (pair_value a b i) refl fails.1)

rejected : (i : ℕ) (s : List ℕ) (k : ℕ) → length s % 2 ≡ 0 → k < length s → IsBad (slice_index s k) → IsRejected i s
rejected i [] k even within bad = absurd (omega arith)
rejected i (a ∷ []) k even within bad = absurd (omega arith)
rejected i (a ∷ b ∷ rest) zero even within bad = by_first a b i rest bad
rejected i (a ∷ b ∷ rest) (suc zero) even within bad = by_second a b i rest bad
rejected i (a ∷ b ∷ rest) (suc (suc k)) even within bad = by_rest a b i rest (rejected (i + 2) rest k (omega arith) (omega arith) bad)

none_if : (digits : List ℕ) → length digits % 2 ≡ 0 → IsRejected 0 digits → bytes_of digits ≡ None
none_if digits even (inl upper) = rw upper refl
none_if digits even (inr fails) = by_capitals (list_any is_ascii_uppercase digits) where
  its : bytes_in (decode_of digits) ≡ None
  its = ap bytes_in (decode_of-even digits even ∙ fails.1)

  by_capitals : (upper : Bool) → (if upper then None else bytes_in (decode_of digits)) ≡ None
  by_capitals true = refl
  by_capitals false = its

-- a byte that is no lower-case digit
pub spells_nothing : (digits : List ℕ) (k : ℕ) → length digits % 2 ≡ 0 → k < length digits → IsBad (slice_index digits k) → bytes_of digits ≡ None
spells_nothing digits k even within bad = none_if digits even (rejected 0 digits k even within bad)

-- a text of an odd length
pub odd_spells_nothing : (digits : List ℕ) → length digits % 2 ≡ 1 → bytes_of digits ≡ None
odd_spells_nothing digits odd = by_capitals (list_any is_ascii_uppercase digits) where
  by_capitals : (upper : Bool) → (if upper then None else bytes_in (decode_of digits)) ≡ None
  by_capitals true = refl
  by_capitals false = rw odd refl

-- ---- digits encode their bytes

lower_below : ℕ → Bool
lower_below zero = true
lower_below (suc n) = not (is_ascii_uppercase (glyph n)) && lower_below n

is_lower : (n d : ℕ) → lower_below n ≡ true → d < n → is_ascii_uppercase (glyph d) ≡ false
unfolding lower_below
is_lower zero d h below = absurd (omega arith)
is_lower (suc n) d h below =
    let parts = and_parts (not (is_ascii_uppercase (glyph n))) (lower_below n) h in
    elim (cases_lt d n) [
      | inl less ↦ is_lower n d parts.1 less
      | inr top ↦ let same : d ≡ n = omega arith in rw same (negated (is_ascii_uppercase (glyph n)) parts.0)
    ] where
      negated : (b : Bool) → not b ≡ true → b ≡ false
      negated false h = refl
      negated true h = sym h

no_capitals : (bytes : List ℕ) → IsBytes bytes → list_any is_ascii_uppercase (encode_lower bytes) ≡ false
unfolding encode_with lower_below
no_capitals [] fits = refl
no_capitals (b ∷ rest) fits =
    let small : b < 256 = fits 0 in
    rw (is_lower 16 (b / 16) refl (omega arith), is_lower 16 (b % 16) refl (omega arith)) (no_capitals rest (λ k. fits (suc k)))

pub spells : (bytes digits : List ℕ) → IsBytes bytes → encode_lower bytes ≡ digits → bytes_of digits ≡ Some bytes
spells bytes digits fits is = sym (ap bytes_of is) ∙ its where
  its : bytes_of (encode_lower bytes) ≡ Some bytes
  its = rw (no_capitals bytes fits, decode_of-encode_lower bytes fits) refl
