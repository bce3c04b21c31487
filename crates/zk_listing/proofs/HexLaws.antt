-- Lower-case hexadecimal digits: a text that decodes and has no capital is that of its bytes.
use Rattle.std.proofs.Common.{◌≡◌, ℕ, zero, suc, ℤ, ◌+◌, ◌*◌, ◌/◌, ◌%◌, ◌^◌, ◌<◌, Bool, true, false, cond, ltb, ◌||◌, List, [], ◌∷◌, Option, Some, None, Result, Ok, Err, refl, sym, ap, subst, ◌∙◌, arith}
use Rattle.std.specs.Prelude.{FitsSigned, slice_index}
use Rattle.std.specs.Char.{is_ascii_uppercase}
use Rattle.std.specs.Int.{w64, from_be_bytes, to_be_bytes, cast_signed, cast_unsigned}
use Rattle.std.specs.List.{AllByRecursion, list_any}
use Rattle.std.proofs.Math.Facts.{sfits_to_z, Fits-of_z}
use Rattle.std.proofs.lemmas.Bool.{false≢true}
use Rattle.std.proofs.lemmas.Bool.Decides.{nat_tests}
use Rattle.std.proofs.lemmas.Int.{to_z-of_z, of_z-to_z}
use Rattle.std.proofs.lemmas.Nat.{be_bytes_8, from_be_bytes-to_be_bytes_8}
use Rattle.hex.specs.Hex.{IsBytes, decode_of, decode_sized, decode_pairs, pair_value, value_at, hex_digit_value, digit_or_error, encode_with, encode_lower, lower_digits, ◌>>=◌}
use Rattle.hex.specs.declared.error.FromHexError.{FromHexError}
use Rattle.hex.specs.declared.error.FromHexError.TheVariants.{InvalidHexCharacter, OddLength}
use Rattle.hex.proofs.HexLemmas.{decode_of-even, decode_of-ok, decode_of-encode_lower, decode_sized-ok, decode_sized-twice, decode_sized-encode_lower}
use Rattle.zk_format.specs.Spelling.{id_digits, sixteen_digits, content_text}
use Rattle.zk_format.specs.Listings.{IsListedContent}
use Rattle.zk_listing.specs.Reading.{id_from, id_of_bytes, content_from, content_of_bytes, content_of_digits, is_end, past}
use Rattle.std.specs.Option.{option_and_then}
use Rattle.std.specs.Str.{bytes_eq}
use Rattle.std.proofs.lemmas.Slice.Eq.{bytes_eq-Decides}
use Rattle.zk_format.proofs.HexBytes.{IsBytes-tail, IsBytes-all, all-IsBytes}
use Rattle.zk_listing.proofs.Exact.{IsExactField, some_is, bind_some, past_is}

-- ---- digits

-- the digit of a number below sixteen
abbrev glyph : ℕ → ℕ
glyph v = slice_index lower_digits v

abbrev IsGlyph : ℕ → Type 0
IsGlyph v = (glyph v ≡ cond (ltb v 10) (48 + v) (87 + v)) × (is_ascii_uppercase (glyph v) ≡ false) × (is_end (glyph v) ≡ false)

is_glyph : (v : ℕ) → v < 16 → IsGlyph v
is_glyph zero h = (refl, refl, refl)
is_glyph (suc zero) h = (refl, refl, refl)
is_glyph (suc (suc zero)) h = (refl, refl, refl)
is_glyph (suc (suc (suc zero))) h = (refl, refl, refl)
is_glyph (suc (suc (suc (suc zero)))) h = (refl, refl, refl)
is_glyph (suc (suc (suc (suc (suc zero))))) h = (refl, refl, refl)
is_glyph (suc (suc (suc (suc (suc (suc zero)))))) h = (refl, refl, refl)
is_glyph (suc (suc (suc (suc (suc (suc (suc zero))))))) h = (refl, refl, refl)
is_glyph (suc (suc (suc (suc (suc (suc (suc (suc zero)))))))) h = (refl, refl, refl)
is_glyph (suc (suc (suc (suc (suc (suc (suc (suc (suc zero))))))))) h = (refl, refl, refl)
is_glyph (suc (suc (suc (suc (suc (suc (suc (suc (suc (suc zero)))))))))) h = (refl, refl, refl)
is_glyph (suc (suc (suc (suc (suc (suc (suc (suc (suc (suc (suc zero))))))))))) h = (refl, refl, refl)
is_glyph (suc (suc (suc (suc (suc (suc (suc (suc (suc (suc (suc (suc zero)))))))))))) h = (refl, refl, refl)
is_glyph (suc (suc (suc (suc (suc (suc (suc (suc (suc (suc (suc (suc (suc zero))))))))))))) h = (refl, refl, refl)
is_glyph (suc (suc (suc (suc (suc (suc (suc (suc (suc (suc (suc (suc (suc (suc zero)))))))))))))) h = (refl, refl, refl)
is_glyph (suc (suc (suc (suc (suc (suc (suc (suc (suc (suc (suc (suc (suc (suc (suc zero))))))))))))))) h = (refl, refl, refl)
is_glyph (suc (suc (suc (suc (suc (suc (suc (suc (suc (suc (suc (suc (suc (suc (suc (suc v)))))))))))))))) h = absurd (omega arith)

digit_range : (c v : ℕ) → hex_digit_value c ≡ Some v → is_ascii_uppercase c ≡ false → (v < 16) × (c ≡ cond (ltb v 10) (48 + v) (87 + v))
digit_range c v h lower = (grind (arith), grind (arith, nat_tests))

glyph_of_digit : (c v : ℕ) → hex_digit_value c ≡ Some v → is_ascii_uppercase c ≡ false → (v < 16) × (glyph v ≡ c)
glyph_of_digit c v h lower =
    let range = digit_range c v h lower in
    (range.0, (is_glyph v range.0).0 ∙ sym range.1)

-- ---- pairs of digits

hex_bind : {A B : Type 0} (r : Result A FromHexError) (f : A → Result B FromHexError) (y : B) → (r >>= f) ≡ Ok y → (x : A) × (r ≡ Ok x) × (f x ≡ Ok y)
hex_bind (Ok x) f y h = (x, refl, h)
hex_bind {A} {B} (Err e) f y h = absurd (let bad : Err e ≡ Ok y = h in cc)

digit_value_of : (c i : ℕ) (o : Option ℕ) (v : ℕ) → digit_or_error c i o ≡ Ok v → o ≡ Some v
digit_value_of c i (Some w) v h = let same : w ≡ v = cc in ap Some same
digit_value_of c i None v h = absurd (let bad : Err (InvalidHexCharacter c i) ≡ Ok v = h in cc)

or_false : (a b : Bool) → (a || b) ≡ false → (a ≡ false) × (b ≡ false)
or_false false b h = (refl, h)
or_false true b h = absurd (false≢true (sym h))

pub lower_again : (i : ℕ) (s bytes : List ℕ) → decode_pairs i s ≡ Ok bytes → list_any is_ascii_uppercase s ≡ false → encode_lower bytes ≡ s
unfolding decode_pairs encode_with
lower_again i [] bytes h lower = let same : [] ≡ bytes = cc in ap encode_lower (sym same)
lower_again i (a ∷ []) bytes h lower = absurd (let bad : Err OddLength ≡ Ok bytes = h in cc)
lower_again i (a ∷ b ∷ rest) bytes h lower =
    let p0 = hex_bind {B = List ℕ} (pair_value a b i) (λ byte. decode_pairs (i + 2) rest >>= λ more. Ok (byte ∷ more)) bytes h in
    let p1 = hex_bind {B = ℕ} (value_at a i) (λ x. value_at b (i + 1) >>= λ y. Ok (x * 16 + y)) p0.0 p0.1 in
    let p2 = hex_bind {B = ℕ} (value_at b (i + 1)) (λ y. Ok (p1.0 * 16 + y)) p0.0 p1.2 in
    let p3 = hex_bind {B = List ℕ} (decode_pairs (i + 2) rest) (λ more. Ok (p0.0 ∷ more)) bytes p0.2 in
    let whole : p0.0 ∷ p3.0 ≡ bytes = let e : Ok (p0.0 ∷ p3.0) ≡ Ok bytes = p3.2 in cc in
    let byte : p1.0 * 16 + p2.0 ≡ p0.0 = let e : Ok (p1.0 * 16 + p2.0) ≡ Ok p0.0 = p2.2 in cc in
    let capital = or_false (is_ascii_uppercase a) (list_any is_ascii_uppercase (b ∷ rest)) lower in
    let capitals = or_false (is_ascii_uppercase b) (list_any is_ascii_uppercase rest) capital.1 in
    let high = glyph_of_digit a p1.0 (digit_value_of a i (hex_digit_value a) p1.0 p1.1) capital.0 in
    let low = glyph_of_digit b p2.0 (digit_value_of b (i + 1) (hex_digit_value b) p2.0 p2.1) capitals.0 in
    let more = lower_again (i + 2) rest p3.0 p3.1 capitals.1 in
    let high_four : p0.0 / 16 ≡ p1.0 = omega arith in
    let low_four : p0.0 % 16 ≡ p2.0 = omega arith in
    let first : glyph (p0.0 / 16) ≡ a = ap glyph high_four ∙ high.1 in
    let second : glyph (p0.0 % 16) ≡ b = ap glyph low_four ∙ low.1 in
    let spelled : encode_lower (p0.0 ∷ p3.0) ≡ a ∷ b ∷ rest = ap (λ (x : ℕ). x ∷ glyph (p0.0 % 16) ∷ encode_lower p3.0) first ∙ ap (λ (x : ℕ). a ∷ x ∷ encode_lower p3.0) second ∙ ap (λ (xs : List ℕ). a ∷ b ∷ xs) more in
    sym (ap encode_lower whole) ∙ spelled

pub no_capitals : (xs : List ℕ) → IsBytes xs → list_any is_ascii_uppercase (encode_lower xs) ≡ false
unfolding encode_with
no_capitals [] h = refl
no_capitals (b ∷ rest) h =
    let small : b < 256 = h 0 in
    rw ((is_glyph (b / 16) (omega arith)).1, (is_glyph (b % 16) (omega arith)).1) (no_capitals rest (IsBytes-tail b rest h))

pub no_ends : (xs : List ℕ) → IsBytes xs → AllByRecursion (λ b. is_end b ≡ false) (encode_lower xs)
unfolding encode_with
no_ends [] h = tt
no_ends (b ∷ rest) h =
    let small : b < 256 = h 0 in
    ((is_glyph (b / 16) (omega arith)).2, ((is_glyph (b % 16) (omega arith)).2, no_ends rest (IsBytes-tail b rest h)))

-- ---- sixteen digits

pub unless_some : {A : Type 0} (b : Bool) (x : Option A) (y : A) → cond b None x ≡ Some y → (b ≡ false) × (x ≡ Some y)
unless_some false x y h = (refl, h)
unless_some true x y h = absurd (let bad : None ≡ Some y = h in cc)

id_of_bytes_is : (r : Result (List ℕ) FromHexError) (z : ℤ) → id_of_bytes r ≡ Some z → (bytes : List ℕ) × (r ≡ Ok bytes) × (cast_signed w64 (from_be_bytes w64 bytes) ≡ z)
id_of_bytes_is (Ok bytes) z h = (bytes, refl, some_is (cast_signed w64 (from_be_bytes w64 bytes)) z h)
id_of_bytes_is (Err e) z h = absurd (let bad : None ≡ Some z = h in cc)

eight_bytes : (n : ℕ) → IsBytes (to_be_bytes w64 n)
eight_bytes n i = grind (arith)

from_be_below : (bytes : List ℕ) → IsBytes bytes → from_be_bytes w64 bytes < 2 ^ 64
from_be_below bytes fits = omega (arith, fits 0, fits 1, fits 2, fits 3, fits 4, fits 5, fits 6, fits 7)

pub id_field : IsExactField id_digits (FitsSigned w64) id_from
unfolding id_from sixteen_digits
id_field = record {
  takes = λ field z h.
      let p = unless_some (list_any is_ascii_uppercase field) (id_of_bytes (decode_sized field 8)) z h in
      let q = id_of_bytes_is (decode_sized field 8) z p.1 in
      let len = decode_sized-ok field 8 q.0 q.1 in
      let decoded : decode_of field ≡ Ok q.0 = sym (decode_sized-twice field 8 len) ∙ q.1 in
      let ok = decode_of-ok field q.0 decoded in
      let pairs : decode_pairs 0 field ≡ Ok q.0 = sym (decode_of-even field ok.0) ∙ decoded in
      let n = from_be_bytes w64 q.0 in
      let below : n < 2 ^ 64 = from_be_below q.0 ok.3 in
      let bytes : to_be_bytes w64 n ≡ q.0 = be_bytes_8 q.0 n (omega (arith, ok.2, len)) ok.3 refl in
      let spelled : field ≡ id_digits (cast_signed w64 n) = sym (lower_again 0 field q.0 pairs p.0) ∙ ap encode_lower (sym bytes) ∙ ap (λ m. encode_lower (to_be_bytes w64 m)) (sym (of_z-to_z w64 n below)) in
      let fits : FitsSigned w64 (cast_signed w64 n) = sfits_to_z {w = w64} (record { fits = below }) in
      (subst (FitsSigned w64) q.2 fits, spelled ∙ ap id_digits q.2);
  again = λ z fits.
      let n = cast_unsigned w64 z in
      let below : n < 2 ^ 64 = (Fits-of_z {w = w64} fits).fits in
      let bytes = to_be_bytes w64 n in
      let decoded = decode_sized-encode_lower bytes 8 refl (eight_bytes n) in
      let back : cast_signed w64 (from_be_bytes w64 bytes) ≡ z = ap (cast_signed w64) (from_be_bytes-to_be_bytes_8 n below) ∙ to_z-of_z w64 z fits in
      rw (no_capitals bytes (eight_bytes n), decoded) (ap Some back);
  plain = λ z fits. no_ends (to_be_bytes w64 (cast_unsigned w64 z)) (eight_bytes (cast_unsigned w64 z));
}

-- ---- contents

content_of_bytes_is : (r : Result (List ℕ) FromHexError) (content : Option (List ℕ)) → content_of_bytes r ≡ Some content → (bytes : List ℕ) × (r ≡ Ok bytes) × (Some bytes ≡ content)
content_of_bytes_is (Ok bytes) content h = (bytes, refl, some_is (Some bytes) content h)
content_of_bytes_is (Err e) content h = absurd (let bad : None ≡ Some content = h in cc)

digits_spell : (digits : List ℕ) (content : Option (List ℕ)) → content_of_digits digits ≡ Some content → IsListedContent content × (120 ∷ digits ≡ content_text content)
unfolding content_text
digits_spell digits content h =
    let p = unless_some (list_any is_ascii_uppercase digits) (content_of_bytes (decode_of digits)) content h in
    let q = content_of_bytes_is (decode_of digits) content p.1 in
    let ok = decode_of-ok digits q.0 q.1 in
    let pairs : decode_pairs 0 digits ≡ Ok q.0 = sym (decode_of-even digits ok.0) ∙ q.1 in
    let spelled : 120 ∷ digits ≡ content_text (Some q.0) = ap (λ (xs : List ℕ). 120 ∷ xs) (sym (lower_again 0 digits q.0 pairs p.0)) in
    (subst IsListedContent q.2 (all-IsBytes q.0 ok.3), spelled ∙ ap content_text q.2)

content_spells : (field : List ℕ) (content : Option (List ℕ)) (null : Bool) → bytes_eq field (45 ∷ []) ≡ null → cond null (Some None) (option_and_then content_of_digits (past 120 field)) ≡ Some content → IsListedContent content × (field ≡ content_text content)
unfolding content_text
content_spells field content true e h =
    let same : None ≡ content = some_is None content h in
    let dash : field ≡ 45 ∷ [] = (bytes_eq-Decides field (45 ∷ [])).0 e in
    (subst IsListedContent same tt, dash ∙ ap content_text same)
content_spells field content false e h =
    let p = bind_some (past 120 field) content_of_digits content h in
    let d = digits_spell p.0 content p.2 in
    (d.0, past_is 120 field p.0 p.1 ∙ d.1)

content_again : (content : Option (List ℕ)) → IsListedContent content → content_from (content_text content) ≡ Some content
unfolding content_from content_text
content_again None fits = refl
content_again (Some bytes) fits =
    let all = IsBytes-all bytes fits in
    rw (no_capitals bytes all, decode_of-encode_lower bytes all) refl

content_plain : (content : Option (List ℕ)) → IsListedContent content → AllByRecursion (λ b. is_end b ≡ false) (content_text content)
unfolding content_text
content_plain None fits = (refl, tt)
content_plain (Some bytes) fits = (refl, no_ends bytes (IsBytes-all bytes fits))

pub content_field : IsExactField content_text IsListedContent content_from
unfolding content_from
content_field = record {
  takes = λ field content h. content_spells field content (bytes_eq field (45 ∷ [])) refl h;
  again = λ content fits. content_again content fits;
  plain = λ content fits. content_plain content fits;
}
