-- The text between quotes, byte by byte.
use Rattle.std.proofs.Common.{◌≡◌, ℕ, suc, ◌≤◌, ◌<◌, Bool, true, false, cond, eqb, ◌||◌, List, [], ◌∷◌, ◌++◌, length, get_or, refl, sym, ap, ◌∙◌, arith, inl, inr}
use Rattle.std.specs.Prelude.{codes}
use Rattle.std.specs.Char.{is_ascii_control}
use Rattle.std.specs.Fmt.{digits}
use Rattle.std.specs.List.{flat_map, list_any}
use Rattle.std.specs.Str.{chars, IsUtf8}
use Rattle.std.proofs.lemmas.Bool.{cases_lt, false≢true}
use Rattle.std.proofs.lemmas.Bool.Decides.{nat_tests}
use Rattle.std.proofs.lemmas.List.{append-nil}
use Rattle.std.proofs.lemmas.List.Concat.{flat_map-append}
use Rattle.std.proofs.lemmas.Str.{encode_ascii, encodes-chars, inside_one}
use lib.Utf8.{encode, encodes}
use Rattle.zk_format.specs.Spelling.{is_escaped, escaped, quoted}

-- ---- characters of more than one byte

-- no byte of a character outside ASCII is ASCII
abbrev pub AllHigh : List ℕ → Type 0
AllHigh [] = Unit {0}
AllHigh (b ∷ bs) = (128 ≤ b) × AllHigh bs

high_from : (xs : List ℕ) → ((k : ℕ) → k < length xs → 128 ≤ get_or xs k 0) → AllHigh xs
high_from [] h = tt
high_from (b ∷ bs) h = (h 0 (omega arith), high_from bs (λ k lt. h (suc k) (omega arith)))

pub encode_high : (c : ℕ) → 128 ≤ c → AllHigh (encode c)
encode_high c high = high_from (encode c) (λ k lt.
    elim (cases_lt (get_or (encode c) k 0) 128) [
      | inl low ↦ let same : c ≡ get_or (encode c) k 0 = inside_one c [] (encode c) k (sym (append-nil (encode c))) lt low in omega arith
      | inr ok ↦ ok
    ])

-- ---- bytes between quotes

-- a byte between quotes; those of longer characters are unchanged
abbrev pub escaped_byte : ℕ → List ℕ
escaped_byte b = cond (eqb b 34 || eqb b 92) (92 ∷ b ∷ []) (cond (is_ascii_control b) (codes "\\u{" ++ digits 16 false b ++ codes "}") (b ∷ []))

high_stay : (xs : List ℕ) → AllHigh xs → flat_map escaped_byte xs ≡ xs
high_stay [] h = refl
high_stay (b ∷ bs) h =
    let one : eqb b 34 ≡ false = (let high = h.0 in grind (arith, nat_tests)) in
    let two : eqb b 92 ≡ false = (let high = h.0 in grind (arith, nat_tests)) in
    let plain : is_ascii_control b ≡ false = (let high = h.0 in grind (arith, nat_tests)) in
    rw (one, two, plain) (ap (λ (xs : List ℕ). b ∷ xs) (high_stay bs h.1))

escaped_char : (c : ℕ) → escaped c ≡ flat_map escaped_byte (encode c)
unfolding escaped
escaped_char c =
    elim (cases_lt c 128) [
      | inl small ↦
          let itself = encode_ascii c small in
          rw itself (sym (append-nil (escaped_byte c)))
      | inr high ↦
          let one : eqb c 34 ≡ false = grind (arith, nat_tests) in
          let two : eqb c 92 ≡ false = grind (arith, nat_tests) in
          let plain : is_ascii_control c ≡ false = grind (arith, nat_tests) in
          rw (one, two, plain) (sym (high_stay (encode c) (encode_high c high)))
    ]

escaped_chars : (cs : List ℕ) → flat_map escaped cs ≡ flat_map escaped_byte (encodes cs)
escaped_chars [] = refl
escaped_chars (c ∷ cs) = ap (λ (xs : List ℕ). xs ++ flat_map escaped cs) (escaped_char c) ∙ ap (λ (xs : List ℕ). flat_map escaped_byte (encode c) ++ xs) (escaped_chars cs) ∙ sym (flat_map-append escaped_byte (encode c) (encodes cs))

or_false : (a b : Bool) → (a || b) ≡ false → (a ≡ false) × (b ≡ false)
or_false true b h = absurd (false≢true (sym h))
or_false false b h = (refl, h)

plain_bytes : (xs : List ℕ) → list_any is_escaped xs ≡ false → flat_map escaped_byte xs ≡ xs
plain_bytes [] h = refl
plain_bytes (b ∷ bs) h =
    let tests = or_false (is_escaped b) (list_any is_escaped bs) h in
    let parts = or_false (eqb b 34 || eqb b 92) (is_ascii_control b) tests.0 in
    rw (parts.0, parts.1) (ap (λ (xs : List ℕ). b ∷ xs) (plain_bytes bs tests.1))

-- a text without escapes is unchanged
pub nothing_escaped : (text : List ℕ) → IsUtf8 text → list_any is_escaped text ≡ false → flat_map escaped (chars text) ≡ text
nothing_escaped text utf8 none = escaped_chars (chars text) ∙ ap (flat_map escaped_byte) (encodes-chars text utf8) ∙ plain_bytes text none

pub quoted_bytes : (text : List ℕ) → IsUtf8 text → quoted text ≡ 34 ∷ flat_map escaped_byte text ++ 34 ∷ []
unfolding quoted
quoted_bytes text utf8 =
    let same : flat_map escaped (chars text) ≡ flat_map escaped_byte text = escaped_chars (chars text) ∙ ap (flat_map escaped_byte) (encodes-chars text utf8) in
    ap (λ (xs : List ℕ). 34 ∷ xs ++ 34 ∷ []) same
