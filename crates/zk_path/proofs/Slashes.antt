-- The last slash of a text: what is before it and after it.
use Rattle.std.proofs.Common.{◌≡◌, ◌≢◌, ℕ, suc, ◌<◌, List, [], ◌∷◌, ◌++◌, true, false, length, get_or, take, drop, Option, Some, None, sym, ⊎_elim, ap, ◌∙◌, refl, arith, lit<}
use Rattle.std.specs.Option.{MatchOption, IsSome}
use Rattle.std.specs.Borrow.{Bor}
use Rattle.std.specs.Str.Pattern.{RFindsChar, SplitsAroundMatch}
use Rattle.std.proofs.lemmas.Str.Pattern.{drop_at_char, NoCharPasses-char}
use Rattle.std.proofs.lemmas.List.{take-append-drop}
use Rattle.std.proofs.lemmas.Bool.{cond-true, cond-false, cases_Bool, eqb-true, some_since, or_from, or_right, ne_eqb}
use Rattle.zk_path.specs.declared.fault.PathFault.TheVariants as faults
use Rattle.zk_path.specs.Paths.{fault_of, rest_fault, is_slash, has_slash, before_last_slash, after_last_slash}

pub has_slash_at_seam : (xs ys : List ℕ) → has_slash (xs ++ 47 ∷ ys) ≡ true
has_slash_at_seam [] ys = refl
has_slash_at_seam (x ∷ xs) ys = or_right (is_slash x) (has_slash (xs ++ 47 ∷ ys)) (has_slash_at_seam xs ys)

pub has_slash_nowhere : (xs : List ℕ) → ((i : ℕ) → i < length xs → get_or xs i 0 ≢ 47) → has_slash xs ≡ false
has_slash_nowhere [] none = refl
has_slash_nowhere (x ∷ xs) none =
    or_from (is_slash x) (has_slash xs) (ne_eqb x 47 (none 0 (omega arith))) (has_slash_nowhere xs (λ i h. none (suc i) (omega arith)))

pub before_last_slash_at : (xs ys : List ℕ) → has_slash ys ≡ false → before_last_slash (xs ++ 47 ∷ ys) ≡ xs
before_last_slash_at [] ys none = cond-false (has_slash ys) _ _ none
before_last_slash_at (x ∷ xs) ys none =
    cond-true (has_slash (xs ++ 47 ∷ ys)) _ _ (has_slash_at_seam xs ys) ∙ ap (λ zs. x ∷ zs) (before_last_slash_at xs ys none)

pub after_last_slash_at : (xs ys : List ℕ) → has_slash ys ≡ false → after_last_slash (xs ++ 47 ∷ ys) ≡ ys
after_last_slash_at [] ys none = cond-false (has_slash ys) _ _ none
after_last_slash_at (x ∷ xs) ys none =
    cond-true (has_slash (xs ++ 47 ∷ ys)) _ _ (has_slash_at_seam xs ys) ∙ after_last_slash_at xs ys none

-- `rsplit_once('/')` cuts at the last slash
pub record CutsAtLastSlash (text above name : List ℕ) : Type 0 where
  pub whole : text ≡ above ++ 47 ∷ name
  pub last : has_slash name ≡ false

pub cuts_at_last_slash : (text above name : List ℕ) → SplitsAroundMatch (RFindsChar 47) text above name → CutsAtLastSlash text above name
cuts_at_last_slash text above name (i, j, (none, at), before, behind, _, _, _) = record {
  whole = sym (take-append-drop i text) ∙ (ap (λ zs. take i text ++ zs) (drop_at_char 47 text i j at (lit< tt)) ∙ (rw (before, behind) refl));
  last = has_slash_nowhere name (λ k h. rw behind (NoCharPasses-char 47 (drop j text) k none (lit< tt) (rw behind at h)));
}

pub record BeginsWithSlash (text : List ℕ) : Type 0 where
  pub rest : List ℕ
  pub is : text ≡ 47 ∷ rest
  pub fault : rest_fault rest ≡ None

pub begins_with_slash : (text : List ℕ) → fault_of text ≡ None → BeginsWithSlash text
begins_with_slash [] e = absurd (cc)
begins_with_slash (b ∷ rest) e =
    ⊎_elim
    (λ slash. record { rest = rest; is = ap (λ x. x ∷ rest) (eqb-true b 47 slash); fault = sym (cond-true (is_slash b) _ _ slash) ∙ e })
    (λ other. let f = sym (cond-false (is_slash b) _ _ other) ∙ e in absurd (cc))
    (cases_Bool (is_slash b))

-- a path has a slash
pub slash_found : (text : List ℕ) (cut : Option (Bor (List ℕ) × Bor (List ℕ))) → fault_of text ≡ None → MatchOption cut (RFindsChar 47 text None) (λ parts. SplitsAroundMatch (RFindsChar 47) text parts.0.now parts.1.now) → IsSome cut
slash_found text cut e cases =
    let first = begins_with_slash text e in
    some_since cut _ _ cases (λ none. NoCharPasses-char 47 text 0 none (lit< tt) (rw first.is (omega arith)) (rw first.is refl))

pub not_absolute : (text : List ℕ) → text ≢ [] → ((rest : List ℕ) → text ≢ 47 ∷ rest) → Some faults.NotAbsolute ≡ fault_of text
not_absolute [] filled other = absurd (filled refl)
not_absolute (b ∷ rest) filled other =
    ⊎_elim
    (λ slash. absurd (other rest (ap (λ x. x ∷ rest) (eqb-true b 47 slash))))
    (λ no_slash. sym (cond-false (is_slash b) _ _ no_slash))
    (cases_Bool (is_slash b))
