-- Entries stay in order.
use Rattle.std.proofs.Common.{◌≡◌, List, [], ◌∷◌, Less, Equal, Greater, refl, ap, ◌∙◌}
use Rattle.std.specs.BTreeMap.{insert_entry}
use Rattle.std.specs.Cmp.{IsTotalOrder}
use Rattle.std.specs.List.{AllByRecursion}
use Rattle.std.specs.List.Sorted.{IsStrictlySortedBy}
use Rattle.std.specs.Map.{keys_of}
use Rattle.std.specs.Ordering.{match_ordering, ordering_reverse}
use Rattle.std.specs.declared.cmp.Ordering.{Ordering}

above : {K : Type 0} {R : K → K → Ordering} (o : IsTotalOrder R) (k e : K) → R k e ≡ Greater → R e k ≡ Less
above o k e p = o.antisymm e k ∙ ap ordering_reverse p

all_above : {K : Type 0} {R : K → K → Ordering} (o : IsTotalOrder R) (k e : K) (ks : List K) → R k e ≡ Less → AllByRecursion (λ q. R e q ≡ Less) ks → AllByRecursion (λ q. R k q ≡ Less) ks
all_above o k e [] lt h = tt
all_above o k e (q ∷ ks) lt h = (o.trans k e q lt h.0, all_above o k e ks lt h.1)

no_keys : {K : Type 0} (R : K → K → Ordering) → (let none : List K = [] in IsStrictlySortedBy R none)
unfolding IsStrictlySortedBy
no_keys R = tt

module _ {K X : Type 0} {R : K → K → Ordering} (o : IsTotalOrder R) where
  all_by : (P : K → Type 0) (r : Ordering) (k : K) (v : X) (e : K × X) (es : List (K × X)) (rest : List (K × X)) → P k → P e.0 → AllByRecursion P (keys_of es) → AllByRecursion P (keys_of rest) → AllByRecursion P (keys_of (match_ordering r ((k, v) ∷ e ∷ es) ((e.0, v) ∷ es) (e ∷ rest)))
  all_by P Less k v e es rest p q h i = (p, (q, h))
  all_by P Equal k v e es rest p q h i = (q, h)
  all_by P Greater k v e es rest p q h i = (q, i)

  all_inserted : (P : K → Type 0) (es : List (K × X)) (k : K) (v : X) → P k → AllByRecursion P (keys_of es) → AllByRecursion P (keys_of (insert_entry R es k v))
  all_inserted P [] k v p h = (p, tt)
  all_inserted P (e ∷ es) k v p h = all_by P (R k e.0) k v e es (insert_entry R es k v) p h.0 h.1 (all_inserted P es k v p h.1)

  sorted_by : (r : Ordering) (k : K) (v : X) (e : K × X) (es : List (K × X)) → R k e.0 ≡ r → IsStrictlySortedBy R (keys_of (e ∷ es)) → IsStrictlySortedBy R (keys_of (insert_entry R es k v)) → IsStrictlySortedBy R (keys_of (match_ordering r ((k, v) ∷ e ∷ es) ((e.0, v) ∷ es) (e ∷ insert_entry R es k v)))
  unfolding IsStrictlySortedBy
  sorted_by Less k v e es p h i = ((p, all_above o k e.0 (keys_of es) p h.0), h)
  sorted_by Equal k v e es p h i = h
  sorted_by Greater k v e es p h i = (all_inserted (λ q. R e.0 q ≡ Less) es k v (above o k e.0 p) h.0, i)

  sorted_rest : (e : K × X) (es : List (K × X)) → IsStrictlySortedBy R (keys_of (e ∷ es)) → IsStrictlySortedBy R (keys_of es)
  unfolding IsStrictlySortedBy
  sorted_rest e es h = h.1

  sorted_one : (k : K) (v : X) → IsStrictlySortedBy R (keys_of ((k, v) ∷ []))
  unfolding IsStrictlySortedBy
  sorted_one k v = (tt, tt)

  pub sorted_inserted : (es : List (K × X)) (k : K) (v : X) → IsStrictlySortedBy R (keys_of es) → IsStrictlySortedBy R (keys_of (insert_entry R es k v))
  sorted_inserted [] k v h = sorted_one k v
  sorted_inserted (e ∷ es) k v h = sorted_by (R k e.0) k v e es refl h (sorted_inserted es k v (sorted_rest e es h))
