-- Bytes, and the text of their hexadecimal digits.
use Rattle.std.proofs.Common.{◌≡◌, ℕ, zero, suc, ◌/◌, ◌%◌, ◌<◌, Bool, true, false, ltb, ◌&&◌, List, [], ◌∷◌, ◌++◌, refl, ap, arith}
use Rattle.std.specs.Prelude.{slice_index}
use Rattle.std.specs.List.{AllByRecursion}
use Rattle.std.specs.Str.{IsAscii, IsUtf8}
use Rattle.std.proofs.lemmas.Bool.{ltb-true}
use Rattle.std.proofs.lemmas.Str.{IsUtf8-from_ascii}
use Rattle.std.proofs.lemmas.Str.Ascii.{IsAscii-nil, IsAscii-cons}
use Rattle.hex.specs.Hex.{IsBytes, encode_with, encode_lower, lower_digits}
use Rattle.hex.proofs.HexLemmas.{IsAscii-encode_with}

-- ---- bytes

pub IsBytes-tail : (b : ℕ) (rest : List ℕ) → IsBytes (b ∷ rest) → IsBytes rest
IsBytes-tail b rest h = λ i. h (suc i)

pub IsBytes-all : (xs : List ℕ) → AllByRecursion (λ b. b < 256) xs → IsBytes xs
IsBytes-all [] h i = omega arith
IsBytes-all (b ∷ rest) h zero = h.0
IsBytes-all (b ∷ rest) h (suc i) = IsBytes-all rest h.1 i

pub all-IsBytes : (xs : List ℕ) → IsBytes xs → AllByRecursion (λ b. b < 256) xs
all-IsBytes [] h = tt
all-IsBytes (b ∷ rest) h = (h 0, all-IsBytes rest (IsBytes-tail b rest h))

-- ---- texts of ASCII

pub both_true : (a b : Bool) → (a && b) ≡ true → (a ≡ true) × (b ≡ true)
both_true true true e = (refl, refl)
both_true true false e = absurd (let h : false ≡ true = e in cc)
both_true false b e = absurd (let h : false ≡ true = e in cc)

-- whether each byte is one of ASCII, as a test that computes
abbrev pub low : List ℕ → Bool
low [] = true
low (b ∷ bs) = ltb b 128 && low bs

pub ascii : (bs : List ℕ) → low bs ≡ true → IsAscii bs
ascii [] e = IsAscii-nil
ascii (b ∷ bs) e = let p = both_true (ltb b 128) (low bs) e in IsAscii-cons b bs (ltb-true b 128 p.0) (ascii bs p.1)

-- hexadecimal digits are UTF-8
pub digits_utf8 : (bytes : List ℕ) → IsUtf8 (encode_lower bytes)
digits_utf8 bytes = IsUtf8-from_ascii (encode_lower bytes) (IsAscii-encode_with lower_digits bytes (ascii lower_digits refl))

pub digits-append : (xs ys : List ℕ) → encode_lower (xs ++ ys) ≡ encode_lower xs ++ encode_lower ys
unfolding encode_with
digits-append [] ys = refl
digits-append (x ∷ xs) ys = ap (λ (rest : List ℕ). slice_index lower_digits (x / 16) ∷ slice_index lower_digits (x % 16) ∷ rest) (digits-append xs ys)
