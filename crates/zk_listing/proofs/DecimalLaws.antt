-- Decimals: their texts, and the result of parsing.
use Rattle.std.proofs.Common.{◌≡◌, ℕ, zero, suc, ℤ, pos, negsuc, neg_ℤ, ◌^◌, ◌<◌, ◌≤◌, Bool, true, false, cond, eqb, ◌&&◌, List, [], ◌∷◌, length, get_or, Some, None, Result, Ok, Err, refl, sym, ap, subst, ◌∙◌, arith, inl, inr, lit<, lit≤}
use Rattle.std.specs.Prelude.{FitsSigned}
use Rattle.std.specs.Fmt.{decimal, signed_decimal}
use Rattle.std.specs.Int.{w32, w64}
use Rattle.std.specs.List.{AllByRecursion}
use Rattle.std.specs.Result.{result_ok}
use Rattle.std.specs.Str.{bytes_eq}
use Rattle.std.specs.Str.Parse.{IsNumeral, AllDigits, digits_value, without_leading_sign, signed_digits_value, ParsesSigned}
use Rattle.std.proofs.lemmas.Bool.{cases_eq, lt-ltb, ltb-true, false≢true}
use Rattle.std.proofs.lemmas.Bool.Decides.{nat_tests}
use Rattle.std.proofs.lemmas.Fmt.{decimal_digit, decimal_is_IsNumeral, first_decimal, decimal-digits_value}
use Rattle.std.proofs.lemmas.Option.{cond_some}
use Rattle.std.proofs.lemmas.Slice.Eq.{bytes_eq-Decides}
use Rattle.std.proofs.lemmas.Str.Parse.{IsNumeralModel, numerals_by_value, tells_digits, digit_from_value}
use lib.Signed.{mag}
use mir.Syntax.{Width}
use mir.Val.{hbits}
use Rattle.zk_listing.specs.Reading.{int_from, fits_signed, is_plain, is_nonzero_digit, is_end}
use Rattle.zk_listing.proofs.Exact.{IsExactField}

-- a digit's value counts from 48
own : IsNumeralModel (AllDigits 10) (digits_value 10)
own = numerals_by_value (AllDigits 10) tells_digits

-- ---- the digits of a number

-- a decimal and its first digit
pub record IsDecimal (n : ℕ) (first : ℕ) (rest : List ℕ) : Type 0 where
  pub spelled : decimal n ≡ first ∷ rest
  pub low : 48 ≤ first
  pub high : first ≤ 57
  pub nonzero : 0 < n → 48 < first
  pub digits : AllDigits 10 (first ∷ rest)
  pub value : digits_value 10 (first ∷ rest) ≡ n

decimal_from : (n : ℕ) (ds : List ℕ) → ds ≡ decimal n → IsNumeral 10 ds → digits_value 10 ds ≡ n → (0 < n → 48 < get_or ds 0 0) → (first : ℕ) × (rest : List ℕ) × IsDecimal n first rest
decimal_from n [] e numeral value nonzero = absurd (omega (arith, numeral.0))
decimal_from n (d ∷ ds) e numeral value nonzero =
    let range = digit_from_value d numeral.1.0 in
    (d, ds, record { spelled = sym e; low = range.0; high = range.1; nonzero = nonzero; digits = numeral.1; value = value })

pub is_decimal : (n : ℕ) → n < 2 ^ 64 → (first : ℕ) × (rest : List ℕ) × IsDecimal n first rest
is_decimal n small =
    let numeral = decimal_is_IsNumeral n small in
    decimal_from n (decimal n) refl numeral.0 numeral.1 (λ h. first_decimal n h small)

-- ---- texts without plus sign or leading zero

nonzero_digit : (b : ℕ) → 48 < b → b ≤ 57 → is_nonzero_digit b ≡ true
nonzero_digit b low high = grind (arith, nat_tests)

plain_digit : (b : ℕ) (rest : List ℕ) → 48 < b → b ≤ 57 → is_plain (b ∷ rest) ≡ true
plain_digit b [] low high = let one = nonzero_digit b low high in grind (arith, nat_tests)
plain_digit b (c ∷ rest) low high = let one = nonzero_digit b low high in grind (arith, nat_tests)

pub is_plain-signed_decimal : (z : ℤ) → mag z < 2 ^ 63 → is_plain (signed_decimal z) ≡ true
is_plain-signed_decimal (pos zero) small = rw (decimal_digit 0 (lit< tt)) refl
is_plain-signed_decimal (pos (suc n)) small =
    let d = is_decimal (suc n) (omega arith) in
    rw d.2.spelled (plain_digit d.0 d.1 (d.2.nonzero (omega arith)) d.2.high)
is_plain-signed_decimal (negsuc n) small =
    let d = is_decimal (suc n) (omega arith) in
    rw d.2.spelled (nonzero_digit d.0 (d.2.nonzero (omega arith)) d.2.high)

-- ---- the number of a text

plus_digits : (first : ℕ) (rest : List ℕ) → 48 ≤ first → signed_digits_value 10 (first ∷ rest) ≡ pos (digits_value 10 (first ∷ rest))
plus_digits first rest low =
    let not_minus : eqb first 45 ≡ false = grind (arith, nat_tests) in
    let not_plus : eqb first 43 ≡ false = grind (arith, nat_tests) in
    rw (not_minus, not_plus) refl

pub signed_digits_value-signed_decimal : (z : ℤ) → mag z < 2 ^ 63 → signed_digits_value 10 (signed_decimal z) ≡ z
signed_digits_value-signed_decimal (pos n) small =
    let d = is_decimal n (omega arith) in
    rw d.2.spelled (plus_digits d.0 d.1 d.2.low ∙ ap pos d.2.value)
signed_digits_value-signed_decimal (negsuc n) small =
    let d = is_decimal (suc n) (omega arith) in
    ap (λ ds. neg_ℤ (pos (digits_value 10 ds))) d.2.spelled ∙ ap (λ m. neg_ℤ (pos m)) d.2.value

pub numeral-signed_decimal : (z : ℤ) → mag z < 2 ^ 63 → IsNumeral 10 (without_leading_sign (signed_decimal z))
numeral-signed_decimal (pos n) small =
    let d = is_decimal n (omega arith) in
    let not_minus : eqb d.0 45 ≡ false = let low = d.2.low in grind (arith, nat_tests) in
    let not_plus : eqb d.0 43 ≡ false = let low = d.2.low in grind (arith, nat_tests) in
    rw (d.2.spelled, not_minus, not_plus) (omega arith, d.2.digits)
numeral-signed_decimal (negsuc n) small = (decimal_is_IsNumeral (suc n) (omega arith)).0

-- ---- a text without plus sign or leading zero is that of its number

digits_spelled : (b : ℕ) (rest : List ℕ) → AllDigits 10 (b ∷ rest) → (b ≡ 48 → rest ≡ []) → digits_value 10 (b ∷ rest) < 2 ^ 64 → decimal (digits_value 10 (b ∷ rest)) ≡ b ∷ rest
digits_spelled b rest digits alone small = decimal-digits_value own (b ∷ rest) digits (omega arith) (λ e. ap (λ xs. length (b ∷ xs)) (alone e)) small

minus_spelled : (n : ℕ) (ds : List ℕ) → decimal n ≡ ds → 48 < get_or ds 0 0 → signed_decimal (neg_ℤ (pos n)) ≡ 45 ∷ ds
minus_spelled zero ds e first = absurd (let at : 48 ≡ get_or ds 0 0 = ap (λ xs. get_or xs 0 0) (sym (decimal_digit 0 (lit< tt)) ∙ e) in omega arith)
minus_spelled (suc n) ds e first = ap (λ xs. 45 ∷ xs) e

-- a test of two parts
and_true : (a b : Bool) → (a && b) ≡ true → (a ≡ true) × (b ≡ true)
and_true true b h = (refl, h)
and_true false b h = absurd (false≢true h)

plain_spelled : (field : List ℕ) → is_plain field ≡ true → IsNumeral 10 (without_leading_sign field) → mag (signed_digits_value 10 field) < 2 ^ 63 → signed_decimal (signed_digits_value 10 field) ≡ field
plain_spelled [] plain numeral small = absurd (false≢true plain)
plain_spelled (b ∷ []) plain numeral small =
    let low : 48 ≤ b = grind (arith, nat_tests) in
    let value = plus_digits b [] low in
    let not_minus : eqb b 45 ≡ false = grind (arith, nat_tests) in
    let not_plus : eqb b 43 ≡ false = grind (arith, nat_tests) in
    let digits : IsNumeral 10 (b ∷ []) = rw (not_minus, not_plus) at numeral in
    let fits : mag (pos (digits_value 10 (b ∷ []))) < 2 ^ 63 = subst (λ (z : ℤ). mag z < 2 ^ 63) value small in
    ap signed_decimal value ∙ digits_spelled b [] digits.1 (λ _. refl) (omega arith)
plain_spelled (b ∷ c ∷ rest) plain numeral small =
    elim (cases_eq b 45) [
      | inl minus ↦
          let is_minus : eqb b 45 ≡ true = grind (arith, nat_tests) in
          let first : is_nonzero_digit c ≡ true = rw is_minus at plain in
          let low : 48 < c = grind (arith, nat_tests) in
          let digits : IsNumeral 10 (c ∷ rest) = rw is_minus at numeral in
          let value : signed_digits_value 10 (b ∷ c ∷ rest) ≡ neg_ℤ (pos (digits_value 10 (c ∷ rest))) = rw is_minus refl in
          let fits : mag (neg_ℤ (pos (digits_value 10 (c ∷ rest)))) < 2 ^ 63 = subst (λ (z : ℤ). mag z < 2 ^ 63) value small in
          let spelled = digits_spelled c rest digits.1 (λ e. absurd (omega arith)) (mag_of_minus (digits_value 10 (c ∷ rest)) fits) in
          ap signed_decimal value ∙ minus_spelled (digits_value 10 (c ∷ rest)) (c ∷ rest) spelled low ∙ ap (λ (x : ℕ). x ∷ c ∷ rest) (sym minus)
      | inr other ↦
          let not_minus : eqb b 45 ≡ false = grind (arith, nat_tests) in
          let first : is_nonzero_digit b ≡ true = rw not_minus at plain in
          let low : 48 < b = grind (arith, nat_tests) in
          let not_plus : eqb b 43 ≡ false = grind (arith, nat_tests) in
          let value = plus_digits b (c ∷ rest) (omega arith) in
          let digits : IsNumeral 10 (b ∷ c ∷ rest) = rw (not_minus, not_plus) at numeral in
          let fits : mag (pos (digits_value 10 (b ∷ c ∷ rest))) < 2 ^ 63 = subst (λ (z : ℤ). mag z < 2 ^ 63) value small in
          ap signed_decimal value ∙ digits_spelled b (c ∷ rest) digits.1 (λ e. absurd (omega arith)) (omega arith)
    ]
  where
    mag_of_minus : (n : ℕ) → mag (neg_ℤ (pos n)) < 2 ^ 63 → n < 2 ^ 64
    mag_of_minus zero h = omega arith
    mag_of_minus (suc n) h = omega arith

-- ---- reading a field

-- a test that fails
pub none_unless : {A : Type 0} (b : Bool) (x : A) → (b ≡ true → ⊥) → cond b (Some x) None ≡ None
none_unless true x h = absurd (h refl)
none_unless false x h = refl

pub record IsNarrow (w : Width) : Type 0 where
  pub narrow : 2 ^ hbits w ≤ 2 ^ 63

pub narrow32 : IsNarrow w32
narrow32 = record { narrow = lit≤ tt }

pub narrow64 : IsNarrow w64
narrow64 = record { narrow = lit≤ tt }

pub int_from-not_plain : (w : Width) → IsNarrow w → (field : List ℕ) → is_plain field ≡ false → int_from w field ≡ None
unfolding int_from
int_from-not_plain w narrow field plain =
    let z = signed_digits_value 10 field in
    none_unless (fits_signed w z && bytes_eq (signed_decimal z) field) z (λ h.
    let parts = and_true (fits_signed w z) (bytes_eq (signed_decimal z) field) h in
    let fits : mag z < 2 ^ hbits w = ltb-true _ _ parts.0 in
    let same : signed_decimal z ≡ field = (bytes_eq-Decides _ _).0 parts.1 in
    let yes : is_plain field ≡ true = ap is_plain (sym same) ∙ is_plain-signed_decimal z (omega (arith, narrow.narrow)) in
    false≢true (sym plain ∙ yes))

pub int_from-parsed : {E : Type 0} (w : Width) → IsNarrow w → (field : List ℕ) (r : Result ℤ E) → is_plain field ≡ true → ParsesSigned w 10 field r → result_ok r ≡ int_from w field
unfolding int_from
int_from-parsed w narrow field (Ok z) plain parsed =
    let v = signed_digits_value 10 field in
    let fits : mag v < 2 ^ hbits w = parsed.0.1.sfits in
    let spelled = plain_spelled field plain parsed.0.0 (omega (arith, narrow.narrow)) in
    let first : fits_signed w v ≡ true = lt-ltb _ _ fits in
    let second : bytes_eq (signed_decimal v) field ≡ true = (bytes_eq-Decides _ _).1 spelled in
    rw (first, second) (ap Some parsed.1)
int_from-parsed w narrow field (Err e) plain parsed =
    let z = signed_digits_value 10 field in
    sym (none_unless (fits_signed w z && bytes_eq (signed_decimal z) field) z (λ h.
    let parts = and_true (fits_signed w z) (bytes_eq (signed_decimal z) field) h in
    let fits : mag z < 2 ^ hbits w = ltb-true _ _ parts.0 in
    let same : signed_decimal z ≡ field = (bytes_eq-Decides _ _).0 parts.1 in
    let numeral : IsNumeral 10 (without_leading_sign field) = subst (λ (f : List ℕ). IsNumeral 10 (without_leading_sign f)) same (numeral-signed_decimal z (omega (arith, narrow.narrow))) in
    parsed (numeral, record { sfits = fits })))

-- digits do not end a field
no_end_digits : (ds : List ℕ) → AllDigits 10 ds → AllByRecursion (λ b. is_end b ≡ false) ds
no_end_digits [] h = tt
no_end_digits (d ∷ ds) h =
    let range = digit_from_value d h.0 in
    let one : is_end d ≡ false = grind (arith, nat_tests) in
    (one, no_end_digits ds h.1)

no_end-signed_decimal : (z : ℤ) → mag z < 2 ^ 63 → AllByRecursion (λ b. is_end b ≡ false) (signed_decimal z)
no_end-signed_decimal (pos n) small = no_end_digits (decimal n) (decimal_is_IsNumeral n (omega arith)).0.1
no_end-signed_decimal (negsuc n) small = (refl, no_end_digits (decimal (suc n)) (decimal_is_IsNumeral (suc n) (omega arith)).0.1)

pub int_field : (w : Width) → IsNarrow w → IsExactField signed_decimal (FitsSigned w) (int_from w)
unfolding int_from
int_field w narrow = record {
  takes = λ field x h.
      let z = signed_digits_value 10 field in
      let found = cond_some (fits_signed w z && bytes_eq (signed_decimal z) field) z x h in
      let parts = and_true (fits_signed w z) (bytes_eq (signed_decimal z) field) found.0 in
      let fits : FitsSigned w z = record { sfits = ltb-true _ _ parts.0 } in
      let same : signed_decimal z ≡ field = (bytes_eq-Decides _ _).0 parts.1 in
      (subst (FitsSigned w) found.1 fits, sym same ∙ ap signed_decimal found.1);
  again = λ z fits.
      let value = signed_digits_value-signed_decimal z (omega (arith, narrow.narrow, fits.sfits)) in
      let first : fits_signed w z ≡ true = lt-ltb _ _ fits.sfits in
      let second : bytes_eq (signed_decimal z) (signed_decimal z) ≡ true = (bytes_eq-Decides (signed_decimal z) (signed_decimal z)).1 refl in
      rw (value, first, second) refl;
  plain = λ z fits. no_end-signed_decimal z (omega (arith, narrow.narrow, fits.sfits));
}

pub int_from-empty : (w : Width) → IsNarrow w → int_from w [] ≡ None
int_from-empty w narrow = int_from-not_plain w narrow [] refl
