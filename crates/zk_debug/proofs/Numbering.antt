-- Breakpoints in the order of their numbers: the next one is last, and a removal leaves the others.
use Rattle.std.proofs.Common.{◌≡◌, ℕ, zero, suc, ◌+◌, ◌<◌, ◌≤◌, cond, Bool, true, false, List, [], ◌∷◌, ◌++◌, length, drop, remove, add-one, Option, Some, None, refl, sym, ap, subst, ◌∙◌, arith, Greater, nat_eq, is_some}
use Rattle.std.proofs.lemmas.Bool.{ne_eqb, false≢true}
use Rattle.std.proofs.lemmas.Cmp.{nat_cmp_total, eq_by_cmp_equiv}
use Rattle.std.proofs.lemmas.List.{drop_all}
use Rattle.std.specs.Cmp.{nat_cmp_is, unsigned_tied}
use Rattle.std.specs.FinMap as finite
use Rattle.std.specs.FinMap.{FinMap, nat_cmp-IsAntisymmetric, entries, entries-insert, entries-from_sorted, from_sorted, find, get-from_sorted, put}
use Rattle.std.specs.List.{AllByRecursion, find as find_by}
use Rattle.std.specs.Map.{lookup, remove_entry}
use Rattle.std.specs.Prelude.{slice_get, option_map}
use Rattle.indexmap.specs.IndexMap.{IndexMap, insert_entry}
use Rattle.indexmap.proofs.CallerLemmas.{insert_entry-new}
use Rattle.std.specs.FinMap.Entries.{by_order}
use Rattle.std.specs.Ordering.{nat_cmp, eq_by_cmp}
use Rattle.zk_debug.specs.declared.breakpoint.Breakpoint.{Breakpoint}
use Rattle.zk_debug.specs.Debugging.{lowest_by}
use Rattle.zk_debug.specs.Numbers.{AreNumbered}
use Rattle.zk_debug.proofs.Found.{find_here}
use Rattle.zk_table.proofs.Sorted.{from_true, sorted_from_entries, kept_from_entries, sorted_removed, removed_missing}

abbrev pub Numbered : Type 0
Numbered = List (ℕ × Breakpoint)

-- ---- the next number

put_last : (k : ℕ) (v : Breakpoint) (es : Numbered) (n : ℕ) → AllByRecursion (λ e. e.0 ≤ n) es → n < k → put nat_cmp k v es ≡ es ++ (k, v) ∷ []
put_last k v [] n all above = refl
put_last k v (e ∷ es) n all above =
    let here : e.0 ≤ n = all.0 in
    let greater : Greater ≡ nat_cmp k e.0 = nat_cmp_is k e.0 Greater (omega arith) in
    ap (λ r. by_order r ((k, v) ∷ e ∷ es) ((e.0, v) ∷ es) (e ∷ put nat_cmp k v es)) (sym greater) ∙ ap (λ l. e ∷ l) (put_last k v es n all.1 above)

not_there : (k : ℕ) (es : Numbered) (n : ℕ) → AllByRecursion (λ e. e.0 ≤ n) es → n < k → lookup (nat_eq k) es ≡ None
not_there k [] n all above = refl
not_there k (e ∷ es) n all above =
    let here : e.0 ≤ n = all.0 in
    let other : nat_eq k e.0 ≡ false = ne_eqb k e.0 (λ same. omega arith) in
    ap (λ b. cond b (Some e.1) (lookup (nat_eq k) es)) other ∙ not_there k es n all.1 above

all_more : (es : Numbered) (n : ℕ) (v : Breakpoint) → AllByRecursion (λ e. e.0 ≤ n) es → AllByRecursion (λ e. e.0 ≤ n + 1) (es ++ (n + 1, v) ∷ [])
all_more [] n v all = (omega arith, tt)
all_more (e ∷ es) n v all = let here : e.0 ≤ n = all.0 in (omega arith, all_more es n v all.1)

module _ {S : Type 0} (m : IndexMap ℕ Breakpoint S) (new : Numbered) (n : ℕ) (v : Breakpoint) (old : AreNumbered m.entries n) (inserted : new ≡ insert_entry nat_eq m.entries (n + 1) v) where
  pushed : new ≡ m.entries ++ (n + 1, v) ∷ []
  pushed = inserted ∙ insert_entry-new nat_eq m (n + 1) v (not_there (n + 1) m.entries n old.counted (omega arith))

  entries_set : new ≡ entries (finite.insert (from_sorted {R = nat_cmp} m.entries) (n + 1) v)
  entries_set =
      pushed
      ∙ sym (put_last (n + 1) v m.entries n old.counted (omega arith))
      ∙ ap (put nat_cmp (n + 1) v) (sym (entries-from_sorted nat_cmp m.entries (from_true _ old.sorted)))
      ∙ sym (entries-insert nat_cmp_total (from_sorted m.entries) (n + 1) v)

  pub numbered_set : n < 65535 → AreNumbered new (n + 1)
  numbered_set room = record { sorted = sorted_from_entries nat_cmp new _ entries_set; counted = subst (AllByRecursion (λ e. e.0 ≤ n + 1)) (sym pushed) (all_more m.entries n v old.counted); limited = omega arith }

  pub standing_set : from_sorted {R = nat_cmp} new ≡ finite.insert (from_sorted m.entries) (n + 1) v
  standing_set = kept_from_entries nat_cmp new _ entries_set

-- ---- removing a number

removed_somewhere : (test : ℕ → Bool) (es : Numbered) → (i : ℕ) × (remove_entry test es ≡ remove es i)
removed_somewhere test [] = (0, refl)
removed_somewhere test (e ∷ es) =
    let rest = removed_somewhere test es in
    elim (test e.0) as (λ b. (i : ℕ) × (cond b es (e ∷ remove_entry test es) ≡ remove (e ∷ es) i)) [ true ↦ (0, refl) | false ↦ (suc rest.0, ap (λ l. e ∷ l) rest.1) ]

all_but : (n : ℕ) (es : Numbered) (i : ℕ) → AllByRecursion (λ e. e.0 ≤ n) es → AllByRecursion (λ e. e.0 ≤ n) (remove es i)
all_but n [] zero all = tt
all_but n [] (suc i) all = tt
all_but n (e ∷ es) zero all = all.1
all_but n (e ∷ es) (suc i) all = (all.0, all_but n es i all.1)

pub numbered_cleared : (test : ℕ → Bool) (es new : Numbered) (n : ℕ) → AreNumbered es n → new ≡ remove_entry test es → AreNumbered new n
numbered_cleared test es new n old gone =
    let place = removed_somewhere test es in
    subst (λ l. AreNumbered l n) (sym (gone ∙ place.1)) (record { sorted = sorted_removed nat_cmp es place.0 old.sorted; counted = all_but n es place.0 old.counted; limited = old.limited })

find-numbers : (q : ℕ) (es : Numbered) → find nat_cmp q es ≡ lookup (nat_eq q) es
find-numbers q [] = refl
find-numbers q (e ∷ es) = ap (λ b. cond b (Some e.1) (find nat_cmp q es)) (unsigned_tied q e.0) ∙ ap (cond (nat_eq q e.0) (Some e.1)) (find-numbers q es)

-- the result of a look-up
pub get-numbers : (q : ℕ) (es : Numbered) (n : ℕ) → AreNumbered es n → finite.get (from_sorted {R = nat_cmp} es) q ≡ lookup (nat_eq q) es
get-numbers q es n are = get-from_sorted nat_cmp es q (from_true _ are.sorted) ∙ find-numbers q es

pub standing_cleared : (k : ℕ) (es new : Numbered) (n : ℕ) → AreNumbered es n → AreNumbered new n → ((q : ℕ) → lookup (nat_eq q) new ≡ cond (nat_eq k q) None (lookup (nat_eq q) es)) → from_sorted {R = nat_cmp} new ≡ finite.remove (from_sorted es) k
standing_cleared k es new n are still gone =
    finite.same_map nat_cmp_total nat_cmp-IsAntisymmetric _ _ (λ q. get-numbers q new n still
    ∙ gone q
    ∙ ap (λ b. cond b None (lookup (nat_eq q) es)) (sym (unsigned_tied k q) ∙ (eq_by_cmp_equiv nat_cmp_total).symm k q)
    ∙ ap (cond (eq_by_cmp nat_cmp q k) None) (sym (get-numbers q es n are))
    ∙ sym (finite.get-remove nat_cmp_total (from_sorted es) k q))

-- a number without breakpoint
pub nothing_cleared : (m : FinMap nat_cmp Breakpoint) (k : ℕ) → finite.contains_key m k ≡ false → finite.remove m k ≡ m
nothing_cleared m k missing = sym (removed_missing nat_cmp_total nat_cmp-IsAntisymmetric m k (none_of (finite.get m k) missing))
  where
    none_of : (found : Option Breakpoint) → is_some found ≡ false → found ≡ None
    none_of None e = refl
    none_of (Some b) e = absurd (false≢true (sym e))

-- ---- the lowest number

module _ (test : Breakpoint → Bool) (es : Numbered) where
  abbrev passes : ℕ × Breakpoint → Bool
  passes e = test e.1

  -- the first match in a scan of the list is the first of the map
  pub lowest_found : (n : ℕ) → AreNumbered es n → option_map (λ e. e.0) (find_by passes es) ≡ lowest_by test (from_sorted es)
  lowest_found n are = ap (λ l. option_map (λ e. e.0) (find_by passes l)) (sym (entries-from_sorted nat_cmp es (from_true _ are.sorted)))

  module _ (at : ℕ) (e : ℕ × Breakpoint) (here : slice_get es at ≡ Some e) (scanned : find_by passes (drop at es) ≡ find_by passes es) where
    pub found_at : test e.1 ≡ true → Some e ≡ find_by passes es
    found_at met = ap (λ b. cond b (Some e) (find_by passes (drop (suc at) es))) (sym met) ∙ sym (find_here passes es at e here) ∙ scanned

    pub passed_over : test e.1 ≡ false → find_by passes (drop (at + 1) es) ≡ find_by passes es
    passed_over missed = rw add-one (ap (λ b. cond b (Some e) (find_by passes (drop (suc at) es))) (sym missed) ∙ sym (find_here passes es at e here) ∙ scanned)

  pub none_left : (at : ℕ) → length es ≤ at → find_by passes (drop at es) ≡ find_by passes es → None ≡ find_by passes es
  none_left at end scanned = ap (find_by passes) (sym (drop_all at es end)) ∙ scanned
