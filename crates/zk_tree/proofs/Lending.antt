-- The entries borrowed from the slots of all nodes.
use Rattle.std.proofs.Common.{◌≡◌, ℕ, true, cond, List, [], ◌∷◌, map, length, is_eq, Less, Some, ◌&&◌, refl, sym, ap, ◌∙◌}
use Rattle.std.proofs.lemmas.Cmp.{nat_list_cmp_total, eq_by_cmp_equiv}
use Rattle.std.proofs.lemmas.Simd.{map-map}
use Rattle.std.specs.FinMap as finite
use Rattle.std.specs.FinMap.{find}
use Rattle.std.specs.List.{AllByRecursion}
use Rattle.std.specs.List.Sorted.{IsStrictlySortedBy}
use Rattle.std.specs.Option.{option_map}
use Rattle.std.specs.Ordering.{eq_by_cmp}
use Rattle.zk_table.specs.declared.node.Node.{Node}
use Rattle.zk_table.specs.States.{NodeMap, path_cmp, children_of, is_child_of}
use Rattle.zk_tree.specs.declared.slots.Slot.{Slot}
use Rattle.zk_tree.specs.Branches.{SlotMap, IsBranching, nodes_of}
use Rattle.zk_tree.specs.declared.entry.Entry.{Entry}
use Rattle.zk_tree.specs.Entries.{lent, entries_of}
use Rattle.zk_tree.proofs.Branching.{get-nodes_of, contains_key-nodes_of}
use Rattle.zk_tree.proofs.Lists.{keys_are, rising_keys, same_itself, children_counted}
use Rattle.zk_tree.proofs.Sorting.{same_entries}

-- ---- all elements of a list

all_mapped : {A B : Type 0} (P : B → Type 0) (f : A → B) (xs : List A) → AllByRecursion (λ x. P (f x)) xs → AllByRecursion P (map f xs)
all_mapped P f [] h = tt
all_mapped P f (x ∷ xs) h = (h.0, all_mapped P f xs h.1)

all_from : {A : Type 0} (P Q : A → Type 0) → ((x : A) → P x → Q x) → (xs : List A) → AllByRecursion P xs → AllByRecursion Q xs
all_from P Q to [] h = tt
all_from P Q to (x ∷ xs) h = (to x h.0, all_from P Q to xs h.1)

mapped_alike : {A B : Type 0} (f g : A → B) (xs : List A) → AllByRecursion (λ x. f x ≡ g x) xs → map f xs ≡ map g xs
mapped_alike f g [] h = refl
mapped_alike f g (x ∷ xs) h = λ i. h.0 i ∷ mapped_alike f g xs h.1 i

-- ---- each entry of a map is found

found_ahead : {X : Type 0} (x : List ℕ × X) (xs es : List (List ℕ × X)) → AllByRecursion (λ k. path_cmp x.0 k ≡ Less) (map (λ e. e.0) es) → AllByRecursion (λ e. find path_cmp e.0 xs ≡ Some e.1) es → AllByRecursion (λ e. find path_cmp e.0 (x ∷ xs) ≡ Some e.1) es
found_ahead x xs [] h a = tt
found_ahead x xs (e ∷ es) h a =
    (ap (λ b. cond b (Some x.1) (find path_cmp e.0 xs)) ((eq_by_cmp_equiv nat_list_cmp_total).symm e.0 x.0 ∙ ap is_eq h.0) ∙ a.0, found_ahead x xs es h.1 a.1)

all_found : {X : Type 0} (es : List (List ℕ × X)) → IsStrictlySortedBy path_cmp (map (λ e. e.0) es) → AllByRecursion (λ e. find path_cmp e.0 es ≡ Some e.1) es
unfolding IsStrictlySortedBy
all_found [] h = tt
all_found (e ∷ es) h = (ap (λ b. cond b (Some e.1) (find path_cmp e.0 es)) (same_itself e.0), found_ahead e es es h.0 (all_found es h.1))

all_there : {X : Type 0} (m : finite.FinMap path_cmp X) → AllByRecursion (λ e. finite.get m e.0 ≡ Some e.1) (finite.entries m)
all_there m =
    all_from (λ e. find path_cmp e.0 (finite.entries m) ≡ Some e.1) (λ e. finite.get m e.0 ≡ Some e.1) (λ e found. finite.get-entries m e.0 ∙ found) (finite.entries m) (all_found (finite.entries m) (rising_keys m))

-- ---- slots and nodes

-- the nodes have the paths of their slots
pub keys-nodes_of : (m : SlotMap) → finite.keys m ≡ finite.keys (nodes_of m)
keys-nodes_of m = keys_are m (finite.keys (nodes_of m)) (rising_keys (nodes_of m)) (λ q. sym (contains_key-nodes_of m q) ∙ finite.contains_key-keys (nodes_of m) q)

abbrev slot_node : List ℕ × Slot → List ℕ × Node
slot_node e = (e.0, e.1.node)

entries-nodes_of : (m : SlotMap) → map slot_node (finite.entries m) ≡ finite.entries (nodes_of m)
entries-nodes_of m =
    same_entries (map slot_node (finite.entries m)) (finite.entries (nodes_of m)) (rising_keys (nodes_of m)) (map-map (λ e. e.0) slot_node (finite.entries m) ∙ keys-nodes_of m)
    (all_mapped (λ e. find path_cmp e.0 (finite.entries (nodes_of m)) ≡ Some e.1) slot_node (finite.entries m)
    (all_from (λ e. finite.get m e.0 ≡ Some e.1) (λ e. find path_cmp e.0 (finite.entries (nodes_of m)) ≡ Some e.1.node) (λ e there. sym (finite.get-entries (nodes_of m) e.0) ∙ get-nodes_of m e.0 ∙ ap (option_map (λ s. s.node)) there) (finite.entries m) (all_there m)))

-- the entry borrowed from a slot
abbrev pub slot_lent : List ℕ × Slot → List ℕ × (Node × ℕ)
slot_lent e = (e.1.path, (e.1.node, finite.len e.1.children))

pub slots_lent : (m : SlotMap) → IsBranching m → map slot_lent (finite.entries m) ≡ entries_of (nodes_of m)
slots_lent m branching =
    mapped_alike slot_lent (λ e. (e.0, (e.1.node, length (children_of (nodes_of m) e.0)))) (finite.entries m)
    (all_from (λ e. finite.get m e.0 ≡ Some e.1) (λ e. slot_lent e ≡ (e.0, (e.1.node, length (children_of (nodes_of m) e.0)))) (λ e there. told e there) (finite.entries m) (all_there m))
    ∙ sym (map-map (λ e. (e.0, (e.1, length (children_of (nodes_of m) e.0)))) slot_node (finite.entries m))
    ∙ ap (map (λ e. (e.0, (e.1, length (children_of (nodes_of m) e.0))))) (entries-nodes_of m)
  where
    told : (e : List ℕ × Slot) → finite.get m e.0 ≡ Some e.1 → slot_lent e ≡ (e.0, (e.1.node, length (children_of (nodes_of m) e.0)))
    told e there =
        let path : e.1.path ≡ e.0 = branching.keyed.paths e.0 e.1 there in
        let count : finite.len e.1.children ≡ length (children_of (nodes_of m) e.0) =
        children_counted e.1.children (nodes_of m) e.0 (λ q. branching.children e.0 e.1 there q ∙ ap (λ b. is_child_of e.0 q && b) (sym (contains_key-nodes_of m q))) in
        λ i. (path i, (e.1.node, count i))

-- the paths of a tree's entries are all its paths
pub paths_lent : (nodes : NodeMap) (es : List Entry) → map lent es ≡ entries_of nodes → map (λ e. e.path.now) es ≡ finite.keys nodes
paths_lent nodes es h =
    sym (map-map (λ l. l.0) lent es) ∙ ap (map (λ l. l.0)) h ∙ map-map (λ l. l.0) (λ e. (e.0, (e.1, length (children_of nodes e.0)))) (finite.entries nodes)
