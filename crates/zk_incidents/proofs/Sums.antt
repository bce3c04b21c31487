-- The sum of counts.
use Rattle.std.proofs.Common.{◌≡◌, ◌+◌, ◌<◌, ◌≤◌, ◌^◌, ℕ, suc, min, List, [], ◌∷◌, length, Option, Some, None, Less, Equal, Greater, arith, refl, sym, ap, ◌∙◌}
use Rattle.std.proofs.lemmas.Cmp.{nat_list_cmp_total}
use Rattle.std.proofs.lemmas.Map.Entries.{sum_by-insert_entry, sum_by-remove_entry}
use Rattle.std.specs.BTreeMap.{insert_entry, is_at}
use Rattle.std.specs.Cmp.{IsTotalOrder}
use Rattle.std.specs.List.{AllByRecursion, sum}
use Rattle.std.specs.List.Sorted.{IsStrictlySortedBy}
use Rattle.std.specs.Map.{keys_of, lookup, remove_entry, values_of}
use Rattle.std.specs.Option.{option_map, unwrap_or}
use Rattle.std.specs.Ordering.{match_ordering, ordering_reverse}
use Rattle.std.specs.declared.cmp.Ordering.{Ordering}
use Rattle.zk_table.specs.States.{path_cmp}
use Rattle.zk_incidents.specs.Counts.{Counted, count_of, counted_all, counted_one, most, one_more}
use Rattle.zk_incidents.specs.Tops.{all_keys}
use Rattle.zk_incidents.specs.CountSums.{CountsAddUp}

-- ---- entries stay sorted

above : {K : Type 0} {R : K → K → Ordering} (o : IsTotalOrder R) (k e : K) → R k e ≡ Greater → R e k ≡ Less
above o k e p = o.antisymm e k ∙ ap ordering_reverse p

all_above : {K : Type 0} {R : K → K → Ordering} (o : IsTotalOrder R) (k e : K) (ks : List K) → R k e ≡ Less → AllByRecursion (λ q. R e q ≡ Less) ks → AllByRecursion (λ q. R k q ≡ Less) ks
all_above o k e [] lt h = tt
all_above o k e (q ∷ ks) lt h = (o.trans k e q lt h.0, all_above o k e ks lt h.1)

no_keys : {K : Type 0} (R : K → K → Ordering) → (let none : List K = [] in IsStrictlySortedBy R none)
unfolding IsStrictlySortedBy
no_keys R = tt

module _ {K X : Type 0} {R : K → K → Ordering} (o : IsTotalOrder R) where
  all_by : (P : K → Type 0) (r : Ordering) (k : K) (v : X) (e : K × X) (es : List (K × X)) (rest : List (K × X)) → P k → P e.0 → AllByRecursion P (keys_of es) → AllByRecursion P (keys_of rest) → AllByRecursion P (keys_of (match_ordering r ((k, v) ∷ e ∷ es) ((e.0, v) ∷ es) (e ∷ rest)))
  all_by P Less k v e es rest p q h i = (p, (q, h))
  all_by P Equal k v e es rest p q h i = (q, h)
  all_by P Greater k v e es rest p q h i = (q, i)

  all_inserted : (P : K → Type 0) (es : List (K × X)) (k : K) (v : X) → P k → AllByRecursion P (keys_of es) → AllByRecursion P (keys_of (insert_entry R es k v))
  all_inserted P [] k v p h = (p, tt)
  all_inserted P (e ∷ es) k v p h = all_by P (R k e.0) k v e es (insert_entry R es k v) p h.0 h.1 (all_inserted P es k v p h.1)

  sorted_by : (r : Ordering) (k : K) (v : X) (e : K × X) (es : List (K × X)) → R k e.0 ≡ r → IsStrictlySortedBy R (keys_of (e ∷ es)) → IsStrictlySortedBy R (keys_of (insert_entry R es k v)) → IsStrictlySortedBy R (keys_of (match_ordering r ((k, v) ∷ e ∷ es) ((e.0, v) ∷ es) (e ∷ insert_entry R es k v)))
  unfolding IsStrictlySortedBy
  sorted_by Less k v e es p h i = ((p, all_above o k e.0 (keys_of es) p h.0), h)
  sorted_by Equal k v e es p h i = h
  sorted_by Greater k v e es p h i = (all_inserted (λ q. R e.0 q ≡ Less) es k v (above o k e.0 p) h.0, i)

  sorted_rest : (e : K × X) (es : List (K × X)) → IsStrictlySortedBy R (keys_of (e ∷ es)) → IsStrictlySortedBy R (keys_of es)
  unfolding IsStrictlySortedBy
  sorted_rest e es h = h.1

  sorted_one : (k : K) (v : X) → IsStrictlySortedBy R (keys_of ((k, v) ∷ []))
  unfolding IsStrictlySortedBy
  sorted_one k v = (tt, tt)

  pub sorted_inserted : (es : List (K × X)) (k : K) (v : X) → IsStrictlySortedBy R (keys_of es) → IsStrictlySortedBy R (keys_of (insert_entry R es k v))
  sorted_inserted [] k v h = sorted_one k v
  sorted_inserted (e ∷ es) k v h = sorted_by (R k e.0) k v e es refl h (sorted_inserted es k v (sorted_rest e es h))

-- ---- sums

abbrev total : Counted → ℕ
total counted = sum (values_of counted)

same_count : (found : Option ℕ) → unwrap_or (option_map (λ (n : ℕ). n) found) 0 ≡ unwrap_or found 0
same_count None = refl
same_count (Some n) = refl

small : (s c t : ℕ) → t + c ≡ s → c ≤ s
small s c t e = omega arith

-- a count is not above the sum
count_small : (counted : Counted) (text : List ℕ) → count_of counted text ≤ total counted
count_small counted text =
    small (total counted) (count_of counted text) (total (remove_entry (is_at (path_cmp text)) counted))
    (ap (λ n. total (remove_entry (is_at (path_cmp text)) counted) + n) (sym (same_count (lookup (is_at (path_cmp text)) counted)))
    ∙ sum_by-remove_entry (λ (n : ℕ). n) (is_at (path_cmp text)) counted)

grown : (s c t m k : ℕ) → t + c ≡ s + min (c + 1) m → c ≤ s → s + suc k ≤ m → t ≡ s + 1
grown s c t m k e le few = omega arith

-- one more text is counted
one_counted : (counted : Counted) (text : List ℕ) (k : ℕ) → IsStrictlySortedBy path_cmp (keys_of counted) → total counted + suc k ≤ most → total (counted_one counted text) ≡ total counted + 1
one_counted counted text k sorted few =
    let c = count_of counted text in
    let e = sym (ap (λ n. total (counted_one counted text) + n) (same_count (lookup (is_at (path_cmp text)) counted))) ∙ sum_by-insert_entry (λ (n : ℕ). n) nat_list_cmp_total counted text (one_more c) sorted in
    grown (total counted) c (total (counted_one counted text)) most k e (count_small counted text) few

fewer : (s k m : ℕ) (t : ℕ) → t ≡ s + 1 → s + suc k ≤ m → t + k ≤ m
fewer s k m t e few = omega arith

joined : (s k t u : ℕ) → t ≡ s + 1 → u ≡ t + k → u ≡ s + suc k
joined s k t u e f = omega arith

all_counted : (counted : Counted) (texts : List (List ℕ)) → IsStrictlySortedBy path_cmp (keys_of counted) → total counted + length texts ≤ most → total (counted_all counted texts) ≡ total counted + length texts
all_counted counted [] sorted few = omega arith
all_counted counted (text ∷ texts) sorted few =
    let next = counted_one counted text in
    let one = one_counted counted text (length texts) sorted few in
    let more = all_counted next texts (sorted_inserted nat_list_cmp_total counted text (one_more (count_of counted text)) sorted) (fewer (total counted) (length texts) most (total next) one few) in
    joined (total counted) (length texts) (total next) (total (counted_all next texts)) one more

at_most : (n : ℕ) → n < 2 ^ 64 → 0 + n ≤ most
at_most n lt = omega arith

plain : (n : ℕ) → 0 + n ≡ n
plain n = omega arith

pub add_up : CountsAddUp
add_up range key records few =
    all_counted [] (all_keys range key records) (no_keys path_cmp) (at_most (length (all_keys range key records)) few) ∙ plain (length (all_keys range key records))
