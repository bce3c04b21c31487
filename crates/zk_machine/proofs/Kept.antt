-- Maps stored as sorted lists, looked up and changed at a position.
use Rattle.std.proofs.Common.{◌≡◌, ℕ, List, get_or, set, insert, remove, Some, None, is_some, is_ok, Result, Ok, Err, IsTrue, refl, sym, ap, subst, ◌∙◌}
use Rattle.std.specs.declared.cmp.Ordering.{Ordering}
use Rattle.std.specs.Cmp.{IsTotalOrder}
use Rattle.std.specs.FinMap.{FinMap, IsAntisymmetric, entries, get, from_sorted, is_sorted}
use Rattle.std.specs.FinMap as finite
use Rattle.zk_table.specs.Places.{position_of}
use Rattle.zk_table.proofs.Sorted.{entries_of_kept, found_at_place, missing_at_place, entries_set, entries_inserted, sorted_removed, kept_removed, removed_missing}

module _ {K X : Type 0} {R : K → K → Ordering} (o : IsTotalOrder R) (es : List (K × X)) (m : FinMap R X) (k : K) (sorted : IsTrue (is_sorted R es)) (view : from_sorted {R = R} es ≡ m) (lent : List (K × X)) (is : lent ≡ es) (r place : Result ℕ ℕ) (looked_up : r ≡ position_of R k lent) (there : r ≡ place) where
  abbrev at_place : position_of R k es ≡ place
  at_place = ap (position_of R k) (sym is) ∙ sym looked_up ∙ there

  abbrev kept : es ≡ entries m
  kept = entries_of_kept R es m sorted view

  pub contained : (d : K × X) → is_ok place ≡ finite.contains_key m k
  contained d = by_place _ refl
    where
      by_place : (p : Result ℕ ℕ) → place ≡ p → is_ok p ≡ finite.contains_key m k
      by_place (Ok i) at = sym (ap is_some (found_at_place o es m k i d kept (at_place ∙ at)))
      by_place (Err i) at = sym (ap is_some (missing_at_place o es m k i kept (at_place ∙ at)))

  module _ (i : ℕ) where
    pub get_found : place ≡ Ok i → (e : K × X) → e ≡ get_or es i e → get m k ≡ Some e.1
    get_found at e read = found_at_place o es m k i e kept (at_place ∙ at) ∙ ap (λ x. Some x.1) (sym read)

    pub get_missing : place ≡ Err i → get m k ≡ None
    get_missing at = missing_at_place o es m k i kept (at_place ∙ at)

    pub entries_replaced : place ≡ Ok i → (e : K × X) → e ≡ get_or es i e → (v : X) → set es i (e.0, v) ≡ entries (finite.insert m k v)
    entries_replaced at e read v = ap (λ x. set es i (x.0, v)) read ∙ entries_set o es m k v i e kept (at_place ∙ at)

    pub entries_added : place ≡ Err i → (v : X) → insert es i (k, v) ≡ entries (finite.insert m k v)
    entries_added at v = entries_inserted o es m k v i kept (at_place ∙ at)

    module _ (same : IsAntisymmetric R) where
      pub removed_there : place ≡ Ok i → (new : List (K × X)) → new ≡ remove es i → from_sorted {R = R} new ≡ finite.remove m k
      removed_there at new after = ap (from_sorted {R = R}) after ∙ kept_removed o same es m k i kept (at_place ∙ at)

      pub removed_none : place ≡ Err i → m ≡ finite.remove m k
      removed_none at = removed_missing o same m k (get_missing at)

-- the rest of a sorted list
pub still_sorted : {K X : Type 0} (R : K → K → Ordering) (es new : List (K × X)) (i : ℕ) → IsTrue (is_sorted R es) → new ≡ remove es i → IsTrue (is_sorted R new)
still_sorted R es new i sorted after = subst (λ l. IsTrue (is_sorted R l)) (sym after) (sorted_removed R es i sorted)
