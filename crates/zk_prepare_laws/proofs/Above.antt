-- What follows a text's last slash has that text's parent.
use Rattle.std.proofs.Common.{◌≡◌, ℕ, ℤ, pos, negsuc, ◌+◌, ◌-◌, ◌/◌, ◌%◌, ◌==◌, List, [], ◌∷◌, ◌++◌, Bool, true, false, cond, length, Some, codes, refl, ap, ◌∙◌, arith, zero, suc}
use Rattle.std.proofs.lemmas.Bool.{false≢true, cond-true, cond-false, or_from, or_left, ne_eqb}
use Rattle.std.proofs.lemmas.List.Folds.{list_any-append}
use Rattle.std.specs.Prelude.{replicate, nat_abs}
use Rattle.std.specs.Fmt.{digits, digits_onto, digit_glyph, decimal}
use Rattle.zk_path.specs.Paths.{is_slash, has_slash, before_last_slash, is_root, parent_of}
use Rattle.zk_path.specs.Sequences.{sign_of, sequence}
use Rattle.zk_requests.specs.Requests.{text_above}

-- ---- a number has no slash

no_slash_in : (a b : List ℕ) → has_slash a ≡ false → has_slash b ≡ false → has_slash (a ++ b) ≡ false
no_slash_in a b e f = list_any-append is_slash a b ∙ or_from (has_slash a) (has_slash b) e f

glyph_apart : (upper : Bool) (d : ℕ) → is_slash (digit_glyph upper d) ≡ false
glyph_apart upper d = ne_eqb (digit_glyph upper d) 47 (λ e. grind arith)

no_slash_onto : (k base : ℕ) (upper : Bool) (n : ℕ) (acc : List ℕ) → has_slash acc ≡ false → has_slash (digits_onto k base upper n acc) ≡ false
no_slash_onto zero base upper n acc e = e
no_slash_onto (suc k) base upper n acc e =
    let more : has_slash (digit_glyph upper (n % base) ∷ acc) ≡ false = or_from _ _ (glyph_apart upper (n % base)) e in
    elim (n / base == 0) as (λ b. has_slash (cond b (digit_glyph upper (n % base) ∷ acc) (digits_onto k base upper (n / base) (digit_glyph upper (n % base) ∷ acc))) ≡ false) [
      | true ↦ more
      | false ↦ no_slash_onto k base upper (n / base) _ more
    ]

no_slash_decimal : (n : ℕ) → has_slash (decimal n) ≡ false
unfolding digits
no_slash_decimal n = no_slash_onto 64 10 false n [] refl

no_slash_zeros : (n : ℕ) → has_slash (replicate n 48) ≡ false
no_slash_zeros zero = refl
no_slash_zeros (suc n) = no_slash_zeros n

no_slash_sign : (number : ℤ) → has_slash (sign_of number) ≡ false
no_slash_sign (pos n) = refl
no_slash_sign (negsuc n) = refl

pub no_slash_sequence : (number : ℤ) → has_slash (sequence number) ≡ false
no_slash_sequence number =
    let zeros : ℕ = 10 - (length (sign_of number) + length (decimal (nat_abs number))) in
    let front : has_slash (sign_of number ++ replicate zeros 48) ≡ false =
    no_slash_in (sign_of number) (replicate zeros 48) (no_slash_sign number) (no_slash_zeros zeros) in
    no_slash_in (sign_of number ++ replicate zeros 48) (decimal (nat_abs number)) front (no_slash_decimal (nat_abs number))

-- ---- what stands before the last slash

before_more : (text more : List ℕ) → has_slash text ≡ true → has_slash more ≡ false → before_last_slash (text ++ more) ≡ before_last_slash text
before_more [] more e none = absurd (false≢true e)
before_more (b ∷ bs) more e none =
    elim (has_slash bs) as (λ s. has_slash bs ≡ s → before_last_slash ((b ∷ bs) ++ more) ≡ cond s (b ∷ before_last_slash bs) []) [
      | true ↦ λ s. cond-true (has_slash (bs ++ more)) _ _ (list_any-append is_slash bs more ∙ or_left (has_slash bs) (has_slash more) s) ∙ ap (λ l. b ∷ l) (before_more bs more s none)
      | false ↦ λ s. cond-false (has_slash (bs ++ more)) _ _ (no_slash_in bs more s none)
    ] refl

-- a text that is not the root
pub parent_is_above : (text : List ℕ) → is_root text ≡ false → parent_of text ≡ Some (text_above text)
parent_is_above text e = cond-false (is_root text) _ _ e

-- with a number after it
pub above_numbered : (text : List ℕ) (number : ℤ) → has_slash text ≡ true → text_above (text ++ sequence number) ≡ text_above text
above_numbered text number e = ap (λ l. cond (length l == 0) (codes "/") l) (before_more text (sequence number) e (no_slash_sequence number))
