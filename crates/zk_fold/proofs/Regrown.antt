-- A map's entries, one by one, in the order of their keys.
use Rattle.std.proofs.Common.{◌≡◌, ℕ, zero, suc, ◌<◌, ◌&&◌, cond, Bool, true, false, List, [], ◌∷◌, ◌++◌, length, get_or, take, drop, Option, Some, None, refl, sym, ap, ◌∙◌, arith, is_lt, is_eq, Less, Equal, Greater}
use Rattle.std.proofs.lemmas.Bool.{false≢true, and_parts}
use Rattle.std.proofs.lemmas.Cmp.{eq_by_cmp_equiv}
use Rattle.std.specs.declared.cmp.Ordering.{Ordering}
use Rattle.std.specs.Cmp.{IsTotalOrder}
use Rattle.std.specs.FinMap as finite
use Rattle.std.specs.FinMap.{FinMap, find, is_sorted}
use Rattle.std.specs.Ordering.{eq_by_cmp}
use Rattle.zk_table.proofs.Sorted.{to_true}

ordered : (r : Ordering) → is_lt r ≡ true → r ≡ Less
ordered Less e = refl
ordered Equal e = absurd (false≢true e)
ordered Greater e = absurd (false≢true e)

module _ {A : Type 0} where
  pub split_at : (es : List A) (i : ℕ) (e : A) → i < length es → get_or es i e ≡ e → es ≡ take i es ++ e ∷ drop (suc i) es
  split_at [] i e lt is = absurd (omega arith)
  split_at (x ∷ es) zero e lt is = ap (λ e. e ∷ es) is
  split_at (x ∷ es) (suc i) e lt is = ap (λ l. x ∷ l) (split_at es i e (omega arith) is)

  pub take_next : (es : List A) (i : ℕ) (e : A) → i < length es → get_or es i e ≡ e → take (suc i) es ≡ take i es ++ e ∷ []
  take_next [] i e lt is = absurd (omega arith)
  take_next (x ∷ es) zero e lt is = ap (λ e. e ∷ []) is
  take_next (x ∷ es) (suc i) e lt is = ap (λ l. x ∷ l) (take_next es i e (omega arith) is)

module _ {K : Type 0} {R : K → K → Ordering} (o : IsTotalOrder R) where
  apart : (x q : K) → R x q ≡ Less → eq_by_cmp R q x ≡ false
  apart x q h = (eq_by_cmp_equiv o).symm q x ∙ ap is_eq h

module _ {K X : Type 0} {R : K → K → Ordering} (o : IsTotalOrder R) where
  -- each key is greater
  abbrev below_all : K → List (K × X) → Bool
  below_all x [] = true
  below_all x (e ∷ es) = is_lt (R x e.0) && below_all x es

  find_less : (q x : K) (es : List (K × X)) → R q x ≡ Less → below_all x es ≡ true → find R q es ≡ None
  find_less q x [] less h = refl
  find_less q x (e ∷ es) less h =
      ap (λ r. cond (is_eq r) (Some e.1) (find R q es)) (o.trans q x e.0 less (ordered _ (and_parts _ _ h).0))
      ∙ find_less q x es less (and_parts _ _ h).1

  module _ (e : K × X) (rest : List (K × X)) where
    mid_above : (x : K) (front : List (K × X)) → below_all x (front ++ e ∷ rest) ≡ true → R x e.0 ≡ Less
    mid_above x [] h = ordered _ (and_parts _ _ h).0
    mid_above x (y ∷ front) h = mid_above x front (and_parts _ _ h).1

    pub not_before : (front : List (K × X)) → is_sorted R (front ++ e ∷ rest) ≡ true → find R e.0 front ≡ None
    not_before [] h = refl
    not_before (x ∷ front) h =
        ap (λ b. cond b (Some x.1) (find R e.0 front)) (apart o x.0 e.0 (mid_above x.0 front (and_parts _ _ h).0))
        ∙ not_before front (and_parts _ _ h).1

    pub found_here : (front : List (K × X)) → is_sorted R (front ++ e ∷ rest) ≡ true → find R e.0 (front ++ e ∷ rest) ≡ Some e.1
    found_here [] h = ap (λ b. cond b (Some e.1) (find R e.0 rest)) ((eq_by_cmp_equiv o).refl e.0)
    found_here (x ∷ front) h =
        ap (λ b. cond b (Some x.1) (find R e.0 (front ++ e ∷ rest))) (apart o x.0 e.0 (mid_above x.0 front (and_parts _ _ h).0))
        ∙ found_here front (and_parts _ _ h).1

    pub found_before : (q : K) → R q e.0 ≡ Less → (front : List (K × X)) → is_sorted R (front ++ e ∷ rest) ≡ true → find R q (front ++ e ∷ rest) ≡ find R q front
    found_before q less [] h = ap (λ r. cond (is_eq r) (Some e.1) (find R q rest)) less ∙ find_less q e.0 rest less (and_parts _ _ h).0
    found_before q less (x ∷ front) h = ap (cond (eq_by_cmp R q x.0) (Some x.1)) (found_before q less front (and_parts _ _ h).1)

  pub found_without : (q : K) (e : K × X) → eq_by_cmp R q e.0 ≡ false → (front : List (K × X)) → find R q (front ++ e ∷ []) ≡ find R q front
  found_without q e other [] = ap (λ b. cond b (Some e.1) None) other
  found_without q e other (x ∷ front) = ap (cond (eq_by_cmp R q x.0) (Some x.1)) (found_without q e other front)

  -- a map's entries up to one, and those after it
  module _ (m : FinMap R X) (i : ℕ) (e : K × X) (within : i < length (finite.entries m)) (is : get_or (finite.entries m) i e ≡ e) where
    pub parts : finite.entries m ≡ take i (finite.entries m) ++ e ∷ drop (suc i) (finite.entries m)
    parts = split_at (finite.entries m) i e within is

    pub in_order : is_sorted R (take i (finite.entries m) ++ e ∷ drop (suc i) (finite.entries m)) ≡ true
    in_order = ap (is_sorted R) (sym parts) ∙ to_true _ (finite.entries_sorted m)
