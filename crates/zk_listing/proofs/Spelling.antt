-- The digits of bytes, one byte after the other.
use Rattle.std.proofs.Common.{◌≡◌, ℕ, zero, suc, ◌+◌, ◌*◌, ◌/◌, ◌%◌, ◌<◌, ◌≤◌, List, [], ◌∷◌, ◌++◌, length, take, drop, slice_index, slice_set, refl, sym, ap, ◌∙◌, arith}
use Rattle.std.proofs.lemmas.List.{append_assoc, append-nil, drop_all, take_all, take_more, take_more_set}
use Rattle.hex.specs.Hex.{IsBytes, encode_with, encode_lower, lower_digits}

-- the digit of a number below sixteen
abbrev pub glyph : ℕ → ℕ
glyph v = slice_index lower_digits v

encoded_more : (xs : List ℕ) (v : ℕ) → encode_lower (xs ++ v ∷ []) ≡ encode_lower xs ++ (glyph (v / 16) ∷ glyph (v % 16) ∷ [])
unfolding encode_with
encoded_more [] v = refl
encoded_more (x ∷ xs) v = ap (λ (rest : List ℕ). glyph (x / 16) ∷ glyph (x % 16) ∷ rest) (encoded_more xs v)

-- two digits more
taken_pair : (xs : List ℕ) (at : ℕ) → 2 * at + 1 < length xs
    → take (2 * (at + 1)) xs ≡ take (2 * at) xs ++ (slice_index xs (2 * at) ∷ slice_index xs (2 * at + 1) ∷ [])
taken_pair xs at fits =
    let two : 2 * (at + 1) ≡ 2 * at + 1 + 1 = omega arith in
    let second = take_more xs (2 * at + 1) 0 fits in
    let first = take_more xs (2 * at) 0 (omega arith) in
    rw (two, second, first) (append_assoc (take (2 * at) xs) (slice_index xs (2 * at) ∷ []) (slice_index xs (2 * at + 1) ∷ []))

-- one byte more is encoded
pub spelled_more : (digits bytes : List ℕ) (at high low byte : ℕ) → 2 * at + 1 < length digits → at < length bytes
    → high < 16 → low < 16 → byte ≡ high * 16 + low → glyph high ≡ slice_index digits (2 * at) → glyph low ≡ slice_index digits (2 * at + 1)
    → encode_lower (take at bytes) ≡ take (2 * at) digits
    → encode_lower (take (at + 1) (slice_set bytes at byte)) ≡ take (2 * (at + 1)) digits
spelled_more digits bytes at high low byte fits room h l whole first second before =
    let upper : byte / 16 ≡ high = omega arith in
    let lower : byte % 16 ≡ low = omega arith in
    ap encode_lower (take_more_set bytes at byte room) ∙ encoded_more (take at bytes) byte
    ∙ ap (λ (xs : List ℕ). xs ++ (glyph (byte / 16) ∷ glyph (byte % 16) ∷ [])) before
    ∙ ap (λ (x : ℕ). take (2 * at) digits ++ (x ∷ glyph (byte % 16) ∷ [])) (ap glyph upper ∙ first)
    ∙ ap (λ (x : ℕ). take (2 * at) digits ++ (slice_index digits (2 * at) ∷ x ∷ [])) (ap glyph lower ∙ second)
    ∙ sym (taken_pair digits at fits)

-- all are
pub spelled_all : (digits bytes : List ℕ) (at : ℕ) → length digits ≡ 2 * length bytes → length bytes ≤ at
    → encode_lower (take at bytes) ≡ take (2 * at) digits → encode_lower bytes ≡ digits
spelled_all digits bytes at twice end before =
    ap encode_lower (sym (take_all at bytes end)) ∙ before ∙ take_all (2 * at) digits (omega arith)

-- bytes that replace all others of a vector
pub written_all : (len : ℕ) (new items : List ℕ) → length new ≡ length items → len ≡ length items → take len (new ++ drop (length new) items) ≡ new
written_all len new items same whole =
    let none = drop_all (length new) items (omega (arith, same)) in
    let end = take_all len new (omega (arith, same, whole)) in
    rw (none, append-nil) end

-- a byte is written among others
pub fits_set : (xs : List ℕ) (at v : ℕ) → v < 256 → IsBytes xs → IsBytes (slice_set xs at v)
fits_set [] at v small fits i = fits i
fits_set (x ∷ xs) zero v small fits zero = small
fits_set (x ∷ xs) zero v small fits (suc i) = fits (suc i)
fits_set (x ∷ xs) (suc at) v small fits zero = fits zero
fits_set (x ∷ xs) (suc at) v small fits (suc i) = fits_set xs at v small (λ k. fits (suc k)) i
