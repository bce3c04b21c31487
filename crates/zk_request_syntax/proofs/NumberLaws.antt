-- Decimals without a sign: which texts have a value, and how they are parsed.
use Rattle.std.proofs.Common.{◌≡◌, ℕ, zero, suc, ◌^◌, ◌<◌, ◌≤◌, Bool, true, false, eqb, ◌&&◌, List, [], ◌∷◌, length, Some, None, Result, Ok, Err, refl, sym, ap, subst, ◌∙◌, arith, lit<}
use Rattle.std.specs.Fmt.{decimal}
use Rattle.std.specs.List.{AllByRecursion}
use Rattle.std.specs.Result.{result_ok}
use Rattle.std.specs.Str.{bytes_eq}
use Rattle.std.specs.Str.Parse.{IsNumeral, AllDigits, digits_value, without_leading_plus, ParsesUnsigned}
use Rattle.std.proofs.lemmas.Bool.{lt-ltb, ltb-true, false≢true}
use Rattle.std.proofs.lemmas.Bool.Decides.{nat_tests}
use Rattle.std.proofs.lemmas.Fmt.{decimal_digit, decimal_is_IsNumeral, decimal-digits_value}
use Rattle.std.proofs.lemmas.Option.{cond_some}
use Rattle.std.proofs.lemmas.Slice.Eq.{bytes_eq-Decides}
use Rattle.std.proofs.lemmas.Str.Parse.{IsNumeralModel, numerals_by_value, tells_digits, digit_from_value}
use Rattle.zk_listing.specs.Reading.{is_end}
use Rattle.zk_listing.proofs.DecimalLaws.{is_decimal, none_unless}
use Rattle.zk_listing.proofs.Exact.{IsExact, IsExactField, exact_field}
use Rattle.zk_request_syntax.specs.Reading.{is_digit_above_zero, begins_plainly, number_from, number_at}

own : IsNumeralModel (AllDigits 10) (digits_value 10)
own = numerals_by_value (AllDigits 10) tells_digits

and_true : (a b : Bool) → (a && b) ≡ true → (a ≡ true) × (b ≡ true)
and_true true b h = (refl, h)
and_true false b h = absurd (false≢true h)

plain_first : (b : ℕ) (rest : List ℕ) → 48 < b → b ≤ 57 → begins_plainly (b ∷ rest) ≡ true
plain_first b [] low high = let one : is_digit_above_zero b ≡ true = grind (arith, nat_tests) in grind (arith, nat_tests)
plain_first b (c ∷ rest) low high = grind (arith, nat_tests)

begins_plainly-decimal : (n : ℕ) → n < 2 ^ 64 → begins_plainly (decimal n) ≡ true
begins_plainly-decimal zero small = rw (decimal_digit 0 (lit< tt)) refl
begins_plainly-decimal (suc n) small =
    let d = is_decimal (suc n) small in
    rw d.2.spelled (plain_first d.0 d.1 (d.2.nonzero (omega arith)) d.2.high)

no_plus : (b : ℕ) (rest : List ℕ) → begins_plainly (b ∷ rest) ≡ true → without_leading_plus (b ∷ rest) ≡ b ∷ rest
no_plus b [] plain =
    let not_plus : eqb b 43 ≡ false = grind (arith, nat_tests) in
    rw not_plus refl
no_plus b (c ∷ rest) plain =
    let not_plus : eqb b 43 ≡ false = grind (arith, nat_tests) in
    rw not_plus refl

plain_digits : (field : List ℕ) → begins_plainly field ≡ true → without_leading_plus field ≡ field
plain_digits [] plain = absurd (false≢true plain)
plain_digits (b ∷ rest) plain = no_plus b rest plain

alone_or_above : (b : ℕ) (rest : List ℕ) → begins_plainly (b ∷ rest) ≡ true → b ≡ 48 → rest ≡ []
alone_or_above b [] plain zero_digit = refl
alone_or_above b (c ∷ rest) plain zero_digit = absurd (let bad : is_digit_above_zero 48 ≡ true = subst (λ (d : ℕ). is_digit_above_zero d ≡ true) zero_digit plain in false≢true bad)

plain_spelled : (field : List ℕ) → begins_plainly field ≡ true → IsNumeral 10 field → digits_value 10 field < 2 ^ 64 → decimal (digits_value 10 field) ≡ field
plain_spelled [] plain numeral small = absurd (false≢true plain)
plain_spelled (b ∷ rest) plain numeral small =
    decimal-digits_value own (b ∷ rest) numeral.1 (omega arith) (λ e. ap (λ (xs : List ℕ). length (b ∷ xs)) (alone_or_above b rest plain e)) small

pub number_from-not_plain : (field : List ℕ) → begins_plainly field ≡ false → number_from field ≡ None
unfolding number_from
number_from-not_plain field plain =
    let n = digits_value 10 field in
    none_unless _ n (λ h.
    let parts = and_true _ (bytes_eq (decimal n) field) h in
    let fits : n < 2 ^ 64 = ltb-true _ _ parts.0 in
    let same : decimal n ≡ field = (bytes_eq-Decides _ _).0 parts.1 in
    false≢true (sym plain ∙ ap begins_plainly (sym same) ∙ begins_plainly-decimal n fits))

pub number_from-parsed : {E : Type 0} (field : List ℕ) (r : Result ℕ E) → begins_plainly field ≡ true → ParsesUnsigned 64 10 field r → result_ok r ≡ number_from field
unfolding number_from
number_from-parsed field (Ok n) plain parsed =
    let v = digits_value 10 field in
    let e = plain_digits field plain in
    let numeral : IsNumeral 10 field = subst (IsNumeral 10) e parsed.0.0 in
    let fits : v < 2 ^ 64 = subst (λ (f : List ℕ). digits_value 10 f < 2 ^ 64) e parsed.0.1 in
    let second : bytes_eq (decimal v) field ≡ true = (bytes_eq-Decides _ _).1 (plain_spelled field plain numeral fits) in
    rw (lt-ltb v (2 ^ 64) fits, second) (ap Some (parsed.1 ∙ ap (digits_value 10) e))
number_from-parsed field (Err fault) plain parsed =
    let n = digits_value 10 field in
    sym (none_unless _ n (λ h.
    let parts = and_true _ (bytes_eq (decimal n) field) h in
    let fits : n < 2 ^ 64 = ltb-true _ _ parts.0 in
    let same : decimal n ≡ field = (bytes_eq-Decides _ _).0 parts.1 in
    let numeral : IsNumeral 10 field = subst (IsNumeral 10) same (decimal_is_IsNumeral n fits).0 in
    let e = plain_digits field plain in
    parsed (subst (IsNumeral 10) (sym e) numeral, subst (λ (f : List ℕ). digits_value 10 f < 2 ^ 64) (sym e) fits)))

no_end_digits : (ds : List ℕ) → AllDigits 10 ds → AllByRecursion (λ b. is_end b ≡ false) ds
no_end_digits [] h = tt
no_end_digits (d ∷ ds) h =
    let range = digit_from_value d h.0 in
    let one : is_end d ≡ false = grind (arith, nat_tests) in
    (one, no_end_digits ds h.1)

number_field : IsExactField decimal (λ n. n < 2 ^ 64) number_from
unfolding number_from
number_field = record {
  takes = λ field x h.
      let n = digits_value 10 field in
      let found = cond_some _ n x h in
      let parts = and_true _ (bytes_eq (decimal n) field) found.0 in
      let same : decimal n ≡ field = (bytes_eq-Decides _ _).0 parts.1 in
      (subst (λ (k : ℕ). k < 2 ^ 64) found.1 (ltb-true _ _ parts.0), sym same ∙ ap decimal found.1);
  again = λ n fits.
      let value : digits_value 10 (decimal n) ≡ n = (decimal_is_IsNumeral n fits).1 in
      let second : bytes_eq (decimal n) (decimal n) ≡ true = (bytes_eq-Decides (decimal n) (decimal n)).1 refl in
      rw (value, lt-ltb n (2 ^ 64) fits, second) refl;
  plain = λ n fits. no_end_digits (decimal n) (decimal_is_IsNumeral n fits).0.1;
}

pub number_exact : IsExact decimal (λ n. n < 2 ^ 64) number_at
unfolding number_at
number_exact =
    let f = exact_field decimal (λ n. n < 2 ^ 64) number_from number_field in
    record { takes = λ bytes x rest h. f.takes bytes x rest h; again = λ x rest fits e. f.again x rest fits e }
