-- Digits that are not a zxid.
use Rattle.std.proofs.Common.{◌≡◌, ℕ, ◌+◌, ◌*◌, ◌<◌, ◌≤◌, pos, cond, List, [], ◌∷◌, length, drop, get_or, Option, Some, None, refl, sym, ap, ◌∙◌}
use Rattle.std.proofs.lemmas.Bool.{le-leb}
use Rattle.std.proofs.lemmas.List.{at_drop_more}
use Rattle.std.specs.Prelude.{option_map}
use Rattle.zk_directory.specs.Names.{digit_in, value_after, value_of, with_digit}
use Rattle.zk_directory.specs.declared.names.Case.{Case}

none_after : (case : Case) (digits : List ℕ) → value_after case None digits ≡ None
none_after case [] = refl
none_after case (c ∷ digits) = none_after case digits

-- what a number becomes with the next digit
next_is : (case : Case) (digits : List ℕ) (i value : ℕ) (next : Option ℕ) → i < length digits → value_after case (Some value) (drop i digits) ≡ value_after case (Some 0) digits → with_digit (Some value) (digit_in case (get_or digits i 0)) ≡ next
    → value_after case next (drop (i + 1) digits) ≡ value_after case (Some 0) digits
next_is case digits i value next lt so e = ap (λ v. value_after case v (drop (i + 1) digits)) (sym e) ∙ sym (at_drop_more (value_after case (Some value)) digits i 0 lt) ∙ so

stops : (case : Case) (digits : List ℕ) (i value : ℕ) → i < length digits → value_after case (Some value) (drop i digits) ≡ value_after case (Some 0) digits → with_digit (Some value) (digit_in case (get_or digits i 0)) ≡ None → None ≡ value_of case digits
stops case digits i value lt so e =
    let none : None ≡ value_after case (Some 0) digits = sym (none_after case (drop (i + 1) digits)) ∙ next_is case digits i value None lt so e in
    ap (option_map pos) none

pub no_digit : (case : Case) (digits : List ℕ) (i value : ℕ) → i < length digits → value_after case (Some value) (drop i digits) ≡ value_after case (Some 0) digits → digit_in case (get_or digits i 0) ≡ None → None ≡ value_of case digits
no_digit case digits i value lt so none = stops case digits i value lt so (ap (with_digit (Some value)) none)

pub too_large : (case : Case) (digits : List ℕ) (i value digit : ℕ) → i < length digits → value_after case (Some value) (drop i digits) ≡ value_after case (Some 0) digits → digit_in case (get_or digits i 0) ≡ Some digit → 576460752303423488 ≤ value → None ≡ value_of case digits
too_large case digits i value digit lt so some large =
    stops case digits i value lt so (ap (with_digit (Some value)) some ∙ ap (λ b. cond b None (Some (value * 16 + digit))) (le-leb 576460752303423488 value large))
