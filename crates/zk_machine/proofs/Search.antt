-- What a binary search finds among sorted entries.
use Rattle.std.proofs.Common.{◌≡◌, ℕ, zero, suc, ◌<◌, ◌≤◌, List, [], ◌∷◌, length, get_or, Bool, true, false, ltb, ◌&&◌, Result, Ok, Err, IsTrue, refl, sym, ap, ◌∙◌, is_lt, Less, Equal, Greater, arith}
use Rattle.std.proofs.lemmas.Bool.{false≢true, and_parts}
use Rattle.std.specs.declared.cmp.Ordering.{Ordering}
use Rattle.std.specs.Cmp.{IsTotalOrder}
use Rattle.std.specs.FinMap.{is_sorted}
use Rattle.std.specs.List.Sorted.{IsSearchInRange, IsBinarySearchResult, IsNonDecreasingBy}
use Rattle.std.specs.Ordering.{match_ordering, ordering_index, ordering_reverse}
use Rattle.std.proofs.lemmas.Cmp.{tied_back, alike_right}
use Rattle.std.proofs.lemmas.List.Sorted.{IsNonDecreasingBy-from_default}
use borrow.Author.Tests.{ltb-true, ltb-false}
use Rattle.zk_table.specs.Places.{position_of, one_later}

ordered : (r : Ordering) → is_lt r ≡ true → r ≡ Less
ordered Less e = refl
ordered Equal e = absurd (false≢true e)
ordered Greater e = absurd (false≢true e)

module _ {K : Type 0} {R : K → K → Ordering} (o : IsTotalOrder R) where
  rising_index : (a b k : K) → R a b ≡ Less → ordering_index (R a k) ≤ ordering_index (R b k)
  rising_index a b k less = by_later _ refl
    where
      at_most : (r : Ordering) → ordering_index r ≤ 2
      at_most Less = omega arith
      at_most Equal = omega arith
      at_most Greater = omega arith

      by_later : (r : Ordering) → R b k ≡ r → ordering_index (R a k) ≤ ordering_index r
      by_later Less e = rw (o.trans a b k less e) (omega arith)
      by_later Equal e = rw (sym (alike_right o b k a e) ∙ less) (omega arith)
      by_later Greater e = at_most (R a k)

  turned : (x y : K) (r : Ordering) → R x y ≡ r → R y x ≡ ordering_reverse r
  turned x y r e = o.antisymm y x ∙ ap ordering_reverse e

module _ {K X : Type 0} {R : K → K → Ordering} (o : IsTotalOrder R) where
  abbrev below_all : K → List (K × X) → Bool
  below_all x [] = true
  below_all x (e ∷ es) = is_lt (R x e.0) && below_all x es

  below_at : (x : K) (es : List (K × X)) (j : ℕ) (d : K × X) → below_all x es ≡ true → j < length es → R x (get_or es j d).0 ≡ Less
  below_at x [] j d h lt = absurd (omega arith)
  below_at x (e ∷ es) zero d h lt = ordered _ (and_parts _ _ h).0
  below_at x (e ∷ es) (suc j) d h lt = below_at x es j d (and_parts _ _ h).1 (omega arith)

  sorted_at : (es : List (K × X)) (i j : ℕ) (d : K × X) → is_sorted R es ≡ true → i < j → j < length es → R (get_or es i d).0 (get_or es j d).0 ≡ Less
  sorted_at [] i j d h lt in_range = absurd (omega arith)
  sorted_at (e ∷ es) i zero d h lt in_range = absurd (omega arith)
  sorted_at (e ∷ es) zero (suc j) d h lt in_range = below_at e.0 es j d (and_parts _ _ h).0 (omega arith)
  sorted_at (e ∷ es) (suc i) (suc j) d h lt in_range = sorted_at es i j d (and_parts _ _ h).1 (omega arith) (omega arith)

  goes_there : (k : K) (es : List (K × X)) (i : ℕ) (d : K × X) → i ≤ length es → ((j : ℕ) → j < i → R (get_or es j d).0 k ≡ Less) → ((j : ℕ) → i ≤ j → j < length es → R (get_or es j d).0 k ≡ Greater) → position_of R k es ≡ Err i
  goes_there k [] zero d le before behind = refl
  goes_there k [] (suc i) d le before behind = absurd (omega arith)
  goes_there k (e ∷ es) zero d le before behind = ap (λ r. match_ordering r (Err 0) (Ok 0) (one_later (position_of R k es))) (turned o e.0 k Greater (behind 0 (omega arith) (omega arith)))
  goes_there k (e ∷ es) (suc i) d le before behind =
      ap (λ r. match_ordering r (Err 0) (Ok 0) (one_later (position_of R k es))) (turned o e.0 k Less (before 0 (omega arith)))
      ∙ ap one_later (goes_there k es i d (omega arith) (λ j lt. before (suc j) (omega arith)) (λ j le lt. behind (suc j) (omega arith) (omega arith)))

  stands_there : (k : K) (es : List (K × X)) (i : ℕ) (d : K × X) → is_sorted R es ≡ true → i < length es → R (get_or es i d).0 k ≡ Equal → position_of R k es ≡ Ok i
  stands_there k [] i d h lt e = absurd (omega arith)
  stands_there k (x ∷ es) zero d h lt e = ap (λ r. match_ordering r (Err 0) (Ok 0) (one_later (position_of R k es))) (tied_back o x.0 k e)
  stands_there k (x ∷ es) (suc i) d h lt e =
      let less : R x.0 k ≡ Less = sym (alike_right o _ k x.0 e) ∙ below_at x.0 es i d (and_parts _ _ h).0 (omega arith) in
      ap (λ r. match_ordering r (Err 0) (Ok 0) (one_later (position_of R k es))) (turned o x.0 k Less less)
      ∙ ap one_later (stands_there k es i d (and_parts _ _ h).1 (omega arith) e)

  pub searched : (d : K × X) (k : K) (es : List (K × X)) → IsTrue (is_sorted R es) → (r : Result ℕ ℕ) → IsSearchInRange r (length es) → IsBinarySearchResult (λ e. R e.0 k) es r → r ≡ position_of R k es
  searched d k es sorted (Ok at) in_range equal = sym (stands_there k es at d sorted in_range (equal d))
  searched d k es sorted (Err at) in_range parted =
      let rises : IsNonDecreasingBy (λ e. ordering_index (R e.0 k)) es = IsNonDecreasingBy-from_default (λ e. ordering_index (R e.0 k)) es d (λ i j le lt. in_order i j le lt) in
      sym (goes_there k es at d in_range (λ j lt. (parted rises).0 j d (omega arith) lt) (λ j le lt. (parted rises).1 j d le lt))
    where
      in_order : (i j : ℕ) → i ≤ j → j < length es → ordering_index (R (get_or es i d).0 k) ≤ ordering_index (R (get_or es j d).0 k)
      in_order i j le lt = elim (ltb i j) as (λ b. ltb i j ≡ b → ordering_index (R (get_or es i d).0 k) ≤ ordering_index (R (get_or es j d).0 k)) [
        | true ↦ λ e. rising_index o _ _ k (sorted_at es i j d sorted (ltb-true i j e) lt)
        | false ↦ λ e. let same : i ≡ j = omega (arith, ltb-false i j e) in ap_le same
      ] refl
        where
          ap_le : i ≡ j → ordering_index (R (get_or es i d).0 k) ≤ ordering_index (R (get_or es j d).0 k)
          ap_le same = rw same (omega arith)
