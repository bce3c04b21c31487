-- Drafts by the texts of their paths, as std's ordered map keeps them.
use Rattle.std.proofs.Common.{◌≡◌, ℕ, Bool, true, cond, ◌&&◌, List, [], ◌∷◌, map, Some, None, String, is_lt, Less, refl, sym, ap, ◌∙◌}
use Rattle.std.proofs.lemmas.Bool.{and_from}
use Rattle.std.proofs.lemmas.Cmp.{nat_list_cmp_total}
use Rattle.std.proofs.lemmas.Map.Text.{btree_map_updates_text}
use Rattle.std.specs.BTreeMap as tree
use Rattle.std.specs.BTreeMap.{BTreeMap, is_at}
use Rattle.std.specs.Cmp.Lexicographic.{slice_cmp}
use Rattle.std.specs.FinMap as finite
use Rattle.std.specs.FinMap.{find, is_sorted}
use Rattle.std.specs.List.{AllByRecursion}
use Rattle.std.specs.List.Sorted.{IsStrictlySortedBy}
use Rattle.std.specs.Map.{lookup}
use Rattle.std.specs.Ordering.{eq_by_cmp, nat_cmp}
use Rattle.std.specs.String.{string_bytes, string_cmp}
use Rattle.zk_table.proofs.Sorted.{from_true}
use Rattle.zk_table.specs.States.{path_cmp}
use Rattle.zk_tree.specs.Views.{map_of}
use Rattle.zk_tree.proofs.Kept.{path_cmp-IsAntisymmetric, tests_alike}
use Rattle.zk_tree.proofs.Sorting.{text_entry}

find-texts : {X Y : Type 0} (q : List ℕ) (es : List (String Y × X)) → find path_cmp q (map (λ e. (string_bytes e.0, e.1)) es) ≡ lookup (is_at (λ k. slice_cmp nat_cmp q (string_bytes k))) es
find-texts q [] = refl
find-texts q (e ∷ es) = ap (cond (eq_by_cmp path_cmp q (string_bytes e.0)) (Some e.1)) (find-texts q es)

pub get-map_of : {X Y : Type 0} (m : BTreeMap (String Y) X) (q : List ℕ) → finite.get (map_of m.entries) q ≡ tree.get_by_text m q
get-map_of m q = finite.get-from_entries nat_list_cmp_total _ q ∙ find-texts q m.entries

pub map_inserted : {X Y : Type 0} (bs : List ℕ) (m n : BTreeMap (String Y) X) (x : X) → tree.UpdatesBy string_cmp (λ k. slice_cmp nat_cmp bs (string_bytes k)) m n (Some x) → map_of n.entries ≡ finite.insert (map_of m.entries) bs x
map_inserted bs m n x updates =
    finite.same_map nat_list_cmp_total path_cmp-IsAntisymmetric _ _ (λ q. get-map_of n q
    ∙ btree_map_updates_text bs m n (Some x) updates q
    ∙ ap (λ b. cond b (Some x) (tree.get_by_text m q)) (tests_alike bs q)
    ∙ ap (cond (eq_by_cmp path_cmp q bs) (Some x)) (sym (get-map_of m q))
    ∙ sym (finite.get-insert nat_list_cmp_total (map_of m.entries) bs x q))

pub map_removed : {X Y : Type 0} (bs : List ℕ) (m n : BTreeMap (String Y) X) → tree.UpdatesBy string_cmp (λ k. slice_cmp nat_cmp bs (string_bytes k)) m n None → map_of n.entries ≡ finite.remove (map_of m.entries) bs
map_removed bs m n updates =
    finite.same_map nat_list_cmp_total path_cmp-IsAntisymmetric _ _ (λ q. get-map_of n q
    ∙ btree_map_updates_text bs m n None updates q
    ∙ ap (λ b. cond b None (tree.get_by_text m q)) (tests_alike bs q)
    ∙ ap (cond (eq_by_cmp path_cmp q bs) None) (sym (get-map_of m q))
    ∙ sym (finite.get-remove nat_list_cmp_total (map_of m.entries) bs q))

-- ---- the order of the entries

abbrev below_all : {X : Type 0} → List ℕ → List (List ℕ × X) → Bool
below_all x [] = true
below_all x (e ∷ es) = is_lt (path_cmp x e.0) && below_all x es

all_below : {X Y : Type 0} (k : String Y) (es : List (String Y × X)) → AllByRecursion (λ x. string_cmp k x ≡ Less) (map (λ e. e.0) es) → below_all (string_bytes k) (map text_entry es) ≡ true
all_below k [] h = refl
all_below k (e ∷ es) h = and_from _ _ (ap is_lt h.0) (all_below k es h.1)

in_order : {X Y : Type 0} (es : List (String Y × X)) → IsStrictlySortedBy string_cmp (map (λ e. e.0) es) → is_sorted path_cmp (map text_entry es) ≡ true
unfolding IsStrictlySortedBy
in_order [] h = refl
in_order (e ∷ es) h = and_from _ _ (all_below e.0 es h.0) (in_order es h.1)

pub entries-map_of : {X Y : Type 0} (es : List (String Y × X)) → IsStrictlySortedBy string_cmp (map (λ e. e.0) es) → finite.entries (map_of es) ≡ map text_entry es
entries-map_of es h =
    let sorted = from_true _ (in_order es h) in
    ap finite.entries (finite.same_map nat_list_cmp_total path_cmp-IsAntisymmetric (map_of es) (finite.from_sorted (map text_entry es)) (λ q. finite.get-from_entries nat_list_cmp_total (map text_entry es) q ∙ sym (finite.get-from_sorted path_cmp (map text_entry es) q sorted)))
    ∙ finite.entries-from_sorted path_cmp (map text_entry es) sorted
