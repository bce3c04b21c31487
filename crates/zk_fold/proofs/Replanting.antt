-- The tree of the entries so far, from the root: where the next one is put, and the whole tree.
use Rattle.std.proofs.Common.{◌≡◌, ℕ, zero, suc, add-one, ◌+◌, ◌<◌, ◌≤◌, cond, true, false, List, [], ◌∷◌, ◌++◌, length, map, get_or, take, drop, pos, Option, Some, None, is_some, unwrap_or, IsSome, refl, sym, subst, ap, ◌∙◌, codes, Less}
use Rattle.std.proofs.lemmas.Bool.{false≢true}
use Rattle.std.proofs.lemmas.Bool.Decides.{Decides-eqb}
use Rattle.std.proofs.lemmas.Cmp.{nat_list_cmp_total}
use Rattle.std.proofs.lemmas.List.{take_all}
use Rattle.std.specs.FinMap as finite
use Rattle.std.specs.FinMap.{find, is_sorted}
use Rattle.std.specs.Option.{option_map}
use Rattle.std.specs.Ordering.{eq_by_cmp}
use Rattle.zk_path.specs.Paths.{parent_of, fault_of}
use Rattle.zk_table.specs.declared.node.Node.{Node}
use Rattle.zk_table.specs.States.{NodeMap, path_cmp, children_of}
use Rattle.zk_machine.specs.Restoring.{begins_with_slash}
use Rattle.zk_tree.specs.declared.entry.Entry.{Entry}
use Rattle.zk_tree.specs.Entries.{lent, entries_of}
use Rattle.zk_tree.specs.Trees.{IsTree, owner_at}
use Rattle.zk_machine.proofs.Families.{has_parent}
use Rattle.zk_machine.proofs.Slashes.{path_begins}
use Rattle.zk_machine.proofs.Orders.{parent_less}
use Rattle.zk_machine.proofs.Texts.{same_is, path_cmp-IsAntisymmetric}
use Rattle.zk_fold.specs.declared.node_table.Slot.{Slot}
use Rattle.zk_fold.specs.Slots.{SlotMap, nodes_at}
use Rattle.zk_fold.proofs.Counting.{get-nodes_at}
use Rattle.zk_fold.proofs.Regrown.{not_before, found_here, found_before, found_without, parts, in_order, take_next}

parent_below : (path above : List ℕ) → begins_with_slash path ≡ true → parent_of path ≡ Some above → path_cmp above path ≡ Less
parent_below [] above h is = absurd (false≢true h)
parent_below (b ∷ bs) above h is =
    let slash : b ≡ 47 = (Decides-eqb b 47).0 h in
    subst (λ (b : ℕ). path_cmp above (b ∷ bs) ≡ Less) (sym slash) (parent_less bs above (ap (λ b. parent_of (b ∷ bs)) (sym slash) ∙ is))

abbrev pub grown : Node → List (List ℕ × Node) → NodeMap
grown root es = finite.from_entries ((codes "/", root) ∷ es)

-- from the root that a tree has
abbrev pub grown_from : Option Node → List (List ℕ × Node) → NodeMap
grown_from None es = finite.empty
grown_from (Some root) es = grown root es

get-grown : (root : Node) (es : List (List ℕ × Node)) (q : List ℕ) → finite.get (grown root es) q ≡ cond (eq_by_cmp path_cmp q (codes "/")) (Some root) (find path_cmp q es)
get-grown root es q = finite.get-from_entries nat_list_cmp_total ((codes "/", root) ∷ es) q

module _ (nodes : NodeMap) (root : Node) (at_root : finite.get nodes (codes "/") ≡ Some root) where
  pub grown_whole : grown root (finite.entries nodes) ≡ nodes
  grown_whole = finite.same_map nat_list_cmp_total path_cmp-IsAntisymmetric _ nodes (λ q. get-grown root (finite.entries nodes) q ∙ at q)
    where
      at : (q : List ℕ) → cond (eq_by_cmp path_cmp q (codes "/")) (Some root) (find path_cmp q (finite.entries nodes)) ≡ finite.get nodes q
      at q = elim (eq_by_cmp path_cmp q (codes "/")) as (λ b. eq_by_cmp path_cmp q (codes "/") ≡ b → cond b (Some root) (find path_cmp q (finite.entries nodes)) ≡ finite.get nodes q) [
        | true ↦ λ s. sym (ap (finite.get nodes) (same_is q (codes "/") s) ∙ at_root)
        | false ↦ λ s. sym (finite.get-entries nodes q)
      ] refl

  module _ (stands : IsTree nodes) (i : ℕ) (path : List ℕ) (node : Node) (within : i < length (finite.entries nodes)) (is : get_or (finite.entries nodes) i (path, node) ≡ (path, node)) (good : fault_of path ≡ None) where
    abbrev front : List (List ℕ × Node)
    front = take i (finite.entries nodes)

    abbrev rest : List (List ℕ × Node)
    rest = drop (suc i) (finite.entries nodes)

    sorted : is_sorted path_cmp (front ++ (path, node) ∷ rest) ≡ true
    sorted = in_order nat_list_cmp_total nodes i (path, node) within is

    new_here : find path_cmp path front ≡ None
    new_here = not_before nat_list_cmp_total (path, node) rest front sorted

    not_root : IsSome (parent_of path) → eq_by_cmp path_cmp path (codes "/") ≡ false
    not_root below = elim (eq_by_cmp path_cmp path (codes "/")) as (λ b. eq_by_cmp path_cmp path (codes "/") ≡ b → b ≡ false) [
      | true ↦ λ s. absurd (false≢true (ap (λ p. is_some (parent_of p)) (sym (same_is path (codes "/") s)) ∙ below))
      | false ↦ λ s. refl
    ] refl

    none_yet : IsSome (parent_of path) → find path_cmp path ((codes "/", root) ∷ front) ≡ None
    none_yet below = ap (λ b. cond b (Some root) (find path_cmp path front)) (not_root below) ∙ new_here

    pub grown_free : IsSome (parent_of path) → finite.contains_key (grown root front) path ≡ false
    grown_free below = ap is_some (finite.get-from_entries nat_list_cmp_total ((codes "/", root) ∷ front) path ∙ none_yet below)

    there : finite.contains_key nodes path ≡ true
    there = ap is_some (finite.get-entries nodes path ∙ ap (find path_cmp path) (parts nat_list_cmp_total nodes i (path, node) within is) ∙ found_here nat_list_cmp_total (path, node) rest front sorted)

    pub grown_below : (above : List ℕ) → parent_of path ≡ Some above → owner_at (grown root front) above ≡ Some (pos 0)
    grown_below above below = ap (option_map (λ (n : Node). n.owner)) (get-grown root front above ∙ at) ∙ stands.parents path above there below
      where
        at : cond (eq_by_cmp path_cmp above (codes "/")) (Some root) (find path_cmp above front) ≡ finite.get nodes above
        at = elim (eq_by_cmp path_cmp above (codes "/")) as (λ b. eq_by_cmp path_cmp above (codes "/") ≡ b → cond b (Some root) (find path_cmp above front) ≡ finite.get nodes above) [
          | true ↦ λ s. sym (ap (finite.get nodes) (same_is above (codes "/") s) ∙ at_root)
          | false ↦ λ s. sym (finite.get-entries nodes above ∙ ap (find path_cmp above) (parts nat_list_cmp_total nodes i (path, node) within is) ∙ found_before nat_list_cmp_total (path, node) rest above (parent_below path above (path_begins path good) below) front sorted)
        ] refl

    pub grown_puts : IsSome (parent_of path) → finite.insert (grown root front) path node ≡ grown root (take (suc i) (finite.entries nodes))
    grown_puts below =
        sym (finite.from_entries_push nat_list_cmp_total path_cmp-IsAntisymmetric ((codes "/", root) ∷ front) path node (none_yet below))
        ∙ ap (grown root) (sym (take_next (finite.entries nodes) i (path, node) within is))

    -- the root is there already
    pub grown_skips : path ≡ codes "/" → grown root front ≡ grown root (take (suc i) (finite.entries nodes))
    grown_skips at_top =
        finite.same_map nat_list_cmp_total path_cmp-IsAntisymmetric _ _ (λ q. get-grown root front q ∙ same q ∙ sym (get-grown root (front ++ (path, node) ∷ []) q))
        ∙ ap (grown root) (sym (take_next (finite.entries nodes) i (path, node) within is))
      where
        same : (q : List ℕ) → cond (eq_by_cmp path_cmp q (codes "/")) (Some root) (find path_cmp q front) ≡ cond (eq_by_cmp path_cmp q (codes "/")) (Some root) (find path_cmp q (front ++ (path, node) ∷ []))
        same q = elim (eq_by_cmp path_cmp q (codes "/")) as (λ b. eq_by_cmp path_cmp q (codes "/") ≡ b → cond b (Some root) (find path_cmp q front) ≡ cond b (Some root) (find path_cmp q (front ++ (path, node) ∷ []))) [
          | true ↦ λ s. refl
          | false ↦ λ s. sym (found_without nat_list_cmp_total q (path, node) (ap (eq_by_cmp path_cmp q) at_top ∙ s) front)
        ] refl

-- ---- the entries, as the code borrows them

abbrev pair : Entry → List ℕ × Node
pair entry = (entry.path.now, entry.node.now)

abbrev first_two : List ℕ × (Node × ℕ) → List ℕ × Node
first_two e = (e.0, e.1.0)

uncounted : (count : List ℕ → ℕ) (es : List (List ℕ × Node)) → map first_two (map (λ e. (e.0, (e.1, count e.0))) es) ≡ es
uncounted count [] = refl
uncounted count (e ∷ es) = ap (λ l. e ∷ l) (uncounted count es)

pairs_lent : (items : List Entry) → map pair items ≡ map first_two (map lent items)
pairs_lent [] = refl
pairs_lent (x ∷ items) = ap (λ l. pair x ∷ l) (pairs_lent items)

length-pairs : (items : List Entry) → length (map pair items) ≡ length items
length-pairs [] = refl
length-pairs (x ∷ items) = ap suc (length-pairs items)

get_or-pairs : (items : List Entry) (i : ℕ) (item : Entry) → get_or (map pair items) i (pair item) ≡ pair (get_or items i item)
get_or-pairs [] i item = refl
get_or-pairs (x ∷ items) zero item = refl
get_or-pairs (x ∷ items) (suc i) item = get_or-pairs items i item

module _ (nodes : NodeMap) (items : List Entry) (lists : map lent items ≡ entries_of nodes) where
  same_pairs : map pair items ≡ finite.entries nodes
  same_pairs = pairs_lent items ∙ ap (map first_two) lists ∙ uncounted (λ path. length (children_of nodes path)) (finite.entries nodes)

  pub as_many : length (finite.entries nodes) ≡ length items
  as_many = ap length (sym same_pairs) ∙ length-pairs items

  pub entry_here : (i : ℕ) (item : Entry) → item ≡ get_or items i item → get_or (finite.entries nodes) i (item.path.now, item.node.now) ≡ (item.path.now, item.node.now)
  entry_here i item is = ap (λ l. get_or l i (pair item)) (sym same_pairs) ∙ get_or-pairs items i item ∙ ap pair (sym is)

-- ---- the root, as the code looks it up

module _ (m : SlotMap) (nodes : NodeMap) (stands : IsTree nodes) (view : nodes_at m ≡ nodes) where
  looked_up : finite.get nodes (codes "/") ≡ option_map (λ p. p.node) (finite.get m (codes "/"))
  looked_up = ap (λ n. finite.get n (codes "/")) (sym view) ∙ get-nodes_at m (codes "/")

  pub root_there : finite.get m (codes "/") ≡ None → ⊥
  root_there none = false≢true (ap (λ p. is_some (option_map (λ (n : Node). n.owner) (option_map (λ (p : Slot). p.node) p))) (sym none) ∙ ap (λ n. is_some (option_map (λ (n : Node). n.owner) n)) (sym looked_up) ∙ ap is_some stands.root)

  pub root_node : (place : Slot) → Some place ≡ finite.get m (codes "/") → finite.get nodes (codes "/") ≡ Some place.node
  root_node place is = looked_up ∙ ap (option_map (λ p. p.node)) (sym is)

  pub root_owner : (place : Slot) → Some place ≡ finite.get m (codes "/") → place.node.owner ≡ pos 0
  root_owner place is = ap (λ o. unwrap_or o (pos 0)) (ap (option_map (λ (n : Node). n.owner)) (sym (root_node place is)) ∙ stands.root)

-- ---- the next of the borrowed entries

module _ (nodes : NodeMap) (stands : IsTree nodes) (items : List Entry) (lists : map lent items ≡ entries_of nodes) (i : ℕ) (item : Entry) (within : i < length items) (is : item ≡ get_or items i item) (now : NodeMap) (so_far : now ≡ grown_from (finite.get nodes (codes "/")) (take i (finite.entries nodes))) where
  here : get_or (finite.entries nodes) i (item.path.now, item.node.now) ≡ (item.path.now, item.node.now)
  here = entry_here nodes items lists i item is

  inside : i < length (finite.entries nodes)
  inside = subst (λ n. i < n) (sym (as_many nodes items lists)) within

  module _ (root : Node) (at_root : finite.get nodes (codes "/") ≡ Some root) where
    grown_now : now ≡ grown root (take i (finite.entries nodes))
    grown_now = so_far ∙ ap (λ r. grown_from r (take i (finite.entries nodes))) at_root

    grown_then : (next : NodeMap) → next ≡ grown root (take (suc i) (finite.entries nodes)) → next ≡ grown_from (finite.get nodes (codes "/")) (take (i + 1) (finite.entries nodes))
    grown_then next e = e ∙ ap (λ r. grown_from r (take (suc i) (finite.entries nodes))) (sym at_root) ∙ ap (λ n. grown_from (finite.get nodes (codes "/")) (take n (finite.entries nodes))) (sym (add-one i))

    pub next_skips : item.path.now ≡ codes "/" → now ≡ grown_from (finite.get nodes (codes "/")) (take (i + 1) (finite.entries nodes))
    next_skips at_top = grown_then now (grown_now ∙ grown_skips nodes root at_root stands i item.path.now item.node.now inside here (ap fault_of at_top) at_top)

    module _ (good : fault_of item.path.now ≡ None) (other : item.path.now ≡ codes "/" → ⊥) where
      pub next_free : finite.contains_key now item.path.now ≡ false
      next_free = ap (λ n. finite.contains_key n item.path.now) grown_now ∙ grown_free nodes root at_root stands i item.path.now item.node.now inside here good (has_parent item.path.now other)

      pub next_below : (above : List ℕ) → parent_of item.path.now ≡ Some above → owner_at now above ≡ Some (pos 0)
      next_below above below = ap (λ n. owner_at n above) grown_now ∙ grown_below nodes root at_root stands i item.path.now item.node.now inside here good above below

      pub next_puts : (next : NodeMap) → next ≡ finite.insert now item.path.now item.node.now → next ≡ grown_from (finite.get nodes (codes "/")) (take (i + 1) (finite.entries nodes))
      next_puts next e = grown_then next (e ∙ ap (λ n. finite.insert n item.path.now item.node.now) grown_now ∙ grown_puts nodes root at_root stands i item.path.now item.node.now inside here good (has_parent item.path.now other))

-- all of them
pub grown_all : (nodes : NodeMap) (root : Node) → finite.get nodes (codes "/") ≡ Some root → (items : List Entry) → map lent items ≡ entries_of nodes → (i : ℕ) → length items ≤ i → (now : NodeMap) → now ≡ grown_from (finite.get nodes (codes "/")) (take i (finite.entries nodes)) → now ≡ nodes
grown_all nodes root at_root items lists i end now so_far =
    let after : length (finite.entries nodes) ≤ i = subst (λ n. n ≤ i) (sym (as_many nodes items lists)) end in
    so_far ∙ ap (λ r. grown_from r (take i (finite.entries nodes))) at_root ∙ ap (grown root) (take_all i (finite.entries nodes) after) ∙ grown_whole nodes root at_root
