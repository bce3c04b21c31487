-- Sessions with their timeouts, in std's ordered map.
use Rattle.std.proofs.Common.{◌≡◌, ℕ, ℤ, Bool, true, cond, ◌&&◌, List, [], ◌∷◌, map, Some, None, is_lt, Less, refl, sym, ap, ◌∙◌}
use Rattle.std.proofs.lemmas.Bool.{and_from}
use Rattle.std.proofs.lemmas.Cmp.{nat_cmp_total, eq_by_cmp_equiv}
use Rattle.std.specs.BTreeMap as tree
use Rattle.std.specs.BTreeMap.{BTreeMap, is_at}
use Rattle.std.specs.FinMap as finite
use Rattle.std.specs.FinMap.{find, is_sorted, nat_cmp-IsAntisymmetric}
use Rattle.std.specs.List.{AllByRecursion}
use Rattle.std.specs.List.Sorted.{IsStrictlySortedBy}
use Rattle.std.specs.Map.{lookup}
use Rattle.std.specs.Ordering.{eq_by_cmp, nat_cmp}
use Rattle.zk_table.proofs.Sorted.{from_true}

find-sessions : (session : ℕ) (es : List (ℕ × ℤ)) → find nat_cmp session es ≡ lookup (is_at (nat_cmp session)) es
find-sessions session [] = refl
find-sessions session (e ∷ es) = ap (cond (eq_by_cmp nat_cmp session e.0) (Some e.1)) (find-sessions session es)

get-timeouts : (m : BTreeMap ℕ ℤ) (session : ℕ) → finite.get (finite.from_entries {R = nat_cmp} m.entries) session ≡ tree.get nat_cmp m session
get-timeouts m session = finite.get-from_entries nat_cmp_total m.entries session ∙ find-sessions session m.entries

pub timeouts_inserted : (session : ℕ) (m n : BTreeMap ℕ ℤ) (x : ℤ) → tree.UpdatesBy nat_cmp (nat_cmp session) m n (Some x) → finite.from_entries {R = nat_cmp} n.entries ≡ finite.insert (finite.from_entries m.entries) session x
timeouts_inserted session m n x updates =
    finite.same_map nat_cmp_total nat_cmp-IsAntisymmetric _ _ (λ q. get-timeouts n q
    ∙ updates.0 q
    ∙ ap (λ b. cond b (Some x) (tree.get nat_cmp m q)) ((eq_by_cmp_equiv nat_cmp_total).symm session q)
    ∙ ap (cond (eq_by_cmp nat_cmp q session) (Some x)) (sym (get-timeouts m q))
    ∙ sym (finite.get-insert nat_cmp_total (finite.from_entries m.entries) session x q))

pub timeouts_removed : (session : ℕ) (m n : BTreeMap ℕ ℤ) → tree.UpdatesBy nat_cmp (nat_cmp session) m n None → finite.from_entries {R = nat_cmp} n.entries ≡ finite.remove (finite.from_entries m.entries) session
timeouts_removed session m n updates =
    finite.same_map nat_cmp_total nat_cmp-IsAntisymmetric _ _ (λ q. get-timeouts n q
    ∙ updates.0 q
    ∙ ap (λ b. cond b None (tree.get nat_cmp m q)) ((eq_by_cmp_equiv nat_cmp_total).symm session q)
    ∙ ap (cond (eq_by_cmp nat_cmp q session) None) (sym (get-timeouts m q))
    ∙ sym (finite.get-remove nat_cmp_total (finite.from_entries m.entries) session q))

-- ---- the entries are sorted

abbrev below_all : ℕ → List (ℕ × ℤ) → Bool
below_all x [] = true
below_all x (e ∷ es) = is_lt (nat_cmp x e.0) && below_all x es

all_below : (x : ℕ) (es : List (ℕ × ℤ)) → AllByRecursion (λ y. nat_cmp x y ≡ Less) (map (λ e. e.0) es) → below_all x es ≡ true
all_below x [] h = refl
all_below x (e ∷ es) h = and_from _ _ (ap is_lt h.0) (all_below x es h.1)

in_order : (es : List (ℕ × ℤ)) → IsStrictlySortedBy nat_cmp (map (λ e. e.0) es) → is_sorted nat_cmp es ≡ true
unfolding IsStrictlySortedBy
in_order [] h = refl
in_order (e ∷ es) h = and_from _ _ (all_below e.0 es h.0) (in_order es h.1)

pub entries_kept : (es : List (ℕ × ℤ)) → IsStrictlySortedBy nat_cmp (map (λ e. e.0) es) → finite.entries (finite.from_entries {R = nat_cmp} es) ≡ es
entries_kept es h =
    let sorted = from_true _ (in_order es h) in
    ap finite.entries (finite.same_map nat_cmp_total nat_cmp-IsAntisymmetric (finite.from_entries es) (finite.from_sorted es) (λ q. finite.get-from_entries nat_cmp_total es q ∙ sym (finite.get-from_sorted nat_cmp es q sorted)))
    ∙ finite.entries-from_sorted nat_cmp es sorted
