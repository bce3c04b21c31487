-- Creating a node below another, and deleting one.
use Rattle.std.proofs.Common.{◌≡◌, ℕ, zero, suc, ℤ, pos, ◌+◌, ◌-◌, ◌^◌, ◌<◌, ◌≤◌, ◌==◌, Bool, true, false, cond, not, ◌&&◌, List, [], ◌∷◌, is_some, Option, Some, None, Result, Ok, Err, OnOk, OnErr, unwrap_or, w64, to_z, of_z, refl, sym, ap, subst, ◌∙◌, is_eq, Less, arith}
use Rattle.std.proofs.lemmas.Bool.{false≢true, eqb-true, eqb-false}
use Rattle.std.proofs.lemmas.Bool.Decides.{Decides-int_eq}
use Rattle.std.proofs.lemmas.Cmp.{nat_list_cmp_total}
use Rattle.std.specs.FinMap as finite
use Rattle.std.specs.Option.{option_map, ForSome}
use Rattle.std.specs.Ordering.{eq_by_cmp, int_eq}
use Rattle.std.specs.Prelude.{option_and_then, is_none}
use Rattle.zk_path.specs.Paths.{parent_of, fault_of}
use Rattle.zk_path.specs.declared.memory.NoMemory.{NoMemory}
use Rattle.zk_table.specs.Codes.{no_node, node_exists, no_children_for_ephemerals}
use Rattle.zk_table.specs.declared.node.Node.{Node}
use Rattle.zk_table.specs.Nodes as nodes
use Rattle.zk_table.specs.Operations.{create_fault, parent_fault}
use Rattle.zk_table.specs.States.{NodeMap, path_cmp, is_child_of, is_parent, changed, changed_found, changed_above, parent_changed}
use Rattle.zk_requests.specs.Overlays.{count_of}
use Rattle.zk_requests.proofs.Counts.{count-insert, count-remove}
use Rattle.zk_machine.proofs.Families.{childless}
use Rattle.zk_machine.proofs.Orders.{parent_less}
use Rattle.zk_machine.proofs.Slashes.{path_begins}
use Rattle.zk_tree.specs.Owners.{set_at, with_owned, without_owned, IsOwned}
use Rattle.zk_tree.specs.Trees.{IsTree, owner_at}
use Rattle.zk_tree.specs.Views.{OwnerMap}
use Rattle.zk_tree.proofs.Kept.{tests_alike, path_cmp-IsAntisymmetric}
use Rattle.zk_tree.proofs.Branching.{is_child}
use Rattle.zk_tree.proofs.Lists.{same_is, no_children}
use Rattle.zk_tree.proofs.Owned.{owned-put, owned-unput, owned-taken, owned-changed}
use Rattle.zk_tree.proofs.Owning.{remove-insert, remove-missing, owns_some}
use Rattle.zk_fold.specs.declared.node_table.Slot.{Slot}
use Rattle.zk_fold.specs.NodeIndexes.{put_below, put_unless}
use Rattle.zk_fold.specs.Slots.{SlotMap, nodes_at, new_place, place_changed, with_child, without_child, with_node, is_fit, made, made_below, IsCounted}
use Rattle.zk_fold.proofs.Counting.{get-nodes_at, contains-nodes_at, nodes-insert, nodes-remove, nodes_changed, get-changed, was, count-changed, count_at_most, nodes_written, counted_written}

-- ---- the nodes after a create

pub nodes_made : (m : SlotMap) (path : List ℕ) (node : Node) (zxid count : ℤ) → nodes_at (made m path node zxid count) ≡ put_below (nodes_at m) path node zxid count
nodes_made m path node zxid count = by_parent (parent_of path) refl
  where
    by_parent : (above : Option (List ℕ)) → parent_of path ≡ above → nodes_at (made_below m path node zxid count above) ≡ put_unless (cond (finite.contains_key (nodes_at m) path) (Some node_exists) (parent_fault (option_and_then (finite.get (nodes_at m)) above))) (nodes_at m) path node zxid count
    by_parent None e = elim (finite.contains_key (nodes_at m) path) as (λ b. nodes_at m ≡ put_unless (cond b (Some node_exists) (Some no_node)) (nodes_at m) path node zxid count) [ true ↦ refl | false ↦ refl ]
    by_parent (Some above) e =
        by_test (finite.contains_key m path) (finite.get m above)
        ∙ ap (λ b. put_unless (cond b (Some node_exists) (parent_fault (option_map (λ p. p.node) (finite.get m above)))) (nodes_at m) path node zxid count) (sym (contains-nodes_at m path))
        ∙ ap (λ x. put_unless (cond (finite.contains_key (nodes_at m) path) (Some node_exists) (parent_fault x)) (nodes_at m) path node zxid count) (sym (get-nodes_at m above))
      where
        put : nodes_at (place_changed (finite.insert m path (new_place path node)) above (with_child zxid count)) ≡ parent_changed (finite.insert (nodes_at m) path node) path (nodes.with_child zxid count)
        put =
            nodes_changed (finite.insert m path (new_place path node)) above (with_child zxid count) (nodes.with_child zxid count) (λ p. refl)
            ∙ ap (λ n. changed n above (nodes.with_child zxid count)) (nodes-insert m path (new_place path node))
            ∙ ap (λ p. changed_above (finite.insert (nodes_at m) path node) p (nodes.with_child zxid count)) (sym e)

        by_test : (b : Bool) (x : Option Slot) → nodes_at (cond b m (cond (is_fit x) (place_changed (finite.insert m path (new_place path node)) above (with_child zxid count)) m)) ≡ put_unless (cond b (Some node_exists) (parent_fault (option_map (λ p. p.node) x))) (nodes_at m) path node zxid count
        by_test true x = refl
        by_test false None = refl
        by_test false (Some p) = elim (int_eq p.node.owner (pos 0)) as (λ f. nodes_at (cond f (place_changed (finite.insert m path (new_place path node)) above (with_child zxid count)) m) ≡ put_unless (cond f None (Some no_children_for_ephemerals)) (nodes_at m) path node zxid count) [ true ↦ put | false ↦ refl ]

-- ---- the numbers of children after a create or a delete

is_above : (path above q : List ℕ) → parent_of path ≡ Some above → is_child_of q path ≡ eq_by_cmp path_cmp q above
is_above path above q e = ap (λ p. is_parent p q) e ∙ tests_alike above q

always : (b : Bool) (x y : ℕ) → cond (b && true) x y ≡ cond b x y
always true x y = refl
always false x y = refl

-- a free path has no children
free_childless : (n : NodeMap) (path : List ℕ) → IsTree n → finite.contains_key n path ≡ false → count_of n path ≡ 0
free_childless n path tree free = childless n path (λ child has is. there (finite.get n path) free (tree.parents child path has is))
  where
    there : (x : Option Node) → is_some x ≡ false → option_map (λ node. node.owner) x ≡ Some (pos 0) → ⊥
    there None e o = false≢true (ap is_some o)
    there (Some node) e o = false≢true (sym e)

module _ (m : SlotMap) (path above : List ℕ) (node : Node) (zxid count : ℤ) (counted : IsCounted m) (tree : IsTree (nodes_at m)) (below : parent_of path ≡ Some above) (free : finite.contains_key m path ≡ false) where
  abbrev with_new : SlotMap
  with_new = finite.insert m path (new_place path node)

  free_node : finite.contains_key (nodes_at m) path ≡ false
  free_node = contains-nodes_at m path ∙ free

  count-put : (q : List ℕ) → count_of (nodes_at (place_changed with_new above (with_child zxid count))) q ≡ cond (eq_by_cmp path_cmp q above) (count_of (nodes_at m) q + 1) (count_of (nodes_at m) q)
  count-put q =
      ap (λ n. count_of n q) (nodes_changed with_new above (with_child zxid count) (nodes.with_child zxid count) (λ p. refl))
      ∙ count-changed (nodes_at with_new) above (nodes.with_child zxid count) q
      ∙ ap (λ n. count_of n q) (nodes-insert m path (new_place path node))
      ∙ count-insert (nodes_at m) path node q
      ∙ ap (λ b. cond (is_child_of q path && not b) (count_of (nodes_at m) q + 1) (count_of (nodes_at m) q)) free_node
      ∙ ap (λ b. cond (b && true) (count_of (nodes_at m) q + 1) (count_of (nodes_at m) q)) (is_above path above q below)
      ∙ always (eq_by_cmp path_cmp q above) _ _

  -- before the parent counts it
  new_at : (q : List ℕ) (r : Slot) → finite.get with_new q ≡ Some r → (r.path ≡ q) × (r.children ≡ count_of (nodes_at m) q)
  new_at q r is = by_test (sym (finite.get-insert nat_list_cmp_total m path (new_place path node) q) ∙ is)
    where
      some_is : (a b : Slot) → Some a ≡ Some b → a ≡ b
      some_is a b e = ap (λ o. unwrap_or o b) e

      by_test : cond (eq_by_cmp path_cmp q path) (Some (new_place path node)) (finite.get m q) ≡ Some r → (r.path ≡ q) × (r.children ≡ count_of (nodes_at m) q)
      by_test = elim (eq_by_cmp path_cmp q path) as (λ b. eq_by_cmp path_cmp q path ≡ b → cond b (Some (new_place path node)) (finite.get m q) ≡ Some r → (r.path ≡ q) × (r.children ≡ count_of (nodes_at m) q)) [
        | true ↦ λ s e.
            let same : new_place path node ≡ r = some_is (new_place path node) r e in
            (sym (ap (λ p. p.path) same) ∙ sym (same_is q path s), sym (ap (λ p. p.children) same) ∙ sym (ap (count_of (nodes_at m)) (same_is q path s) ∙ free_childless (nodes_at m) path tree free_node))
        | false ↦ λ s e. (counted.keyed q r e, counted.counts q r e)
      ] refl

  put_at : (q : List ℕ) (r : Slot) → cond (eq_by_cmp path_cmp q above) (option_map (with_child zxid count) (finite.get with_new q)) (finite.get with_new q) ≡ Some r → (r.path ≡ q) × (r.children ≡ cond (eq_by_cmp path_cmp q above) (count_of (nodes_at m) q + 1) (count_of (nodes_at m) q))
  put_at q r = elim (eq_by_cmp path_cmp q above) as (λ b. cond b (option_map (with_child zxid count) (finite.get with_new q)) (finite.get with_new q) ≡ Some r → (r.path ≡ q) × (r.children ≡ cond b (count_of (nodes_at m) q + 1) (count_of (nodes_at m) q))) [
    | true ↦ λ e.
        let old = was (with_child zxid count) (finite.get with_new q) r e in
        let before = new_at q old.0 old.1 in
        (sym (ap (λ p. p.path) old.2) ∙ before.0, sym (ap (λ p. p.children) old.2) ∙ ap (λ n. n + 1) before.1)
    | false ↦ λ e. new_at q r e
  ]

  pub counted_put : IsCounted (place_changed with_new above (with_child zxid count))
  counted_put = record {
    keyed = λ q r is. (put_at q r (sym (get-changed with_new above (with_child zxid count) q) ∙ is)).0;
    counts = λ q r is. (put_at q r (sym (get-changed with_new above (with_child zxid count) q) ∙ is)).1 ∙ sym (count-put q);
  }

pub counted_made : (m : SlotMap) (path : List ℕ) (node : Node) (zxid count : ℤ) → IsCounted m → IsTree (nodes_at m) → IsCounted (made m path node zxid count)
counted_made m path node zxid count counted tree = by_parent (parent_of path) refl
  where
    by_parent : (above : Option (List ℕ)) → parent_of path ≡ above → IsCounted (made_below m path node zxid count above)
    by_parent None e = counted
    by_parent (Some above) e = elim (finite.contains_key m path) as (λ b. finite.contains_key m path ≡ b → IsCounted (cond b m (cond (is_fit (finite.get m above)) (place_changed (finite.insert m path (new_place path node)) above (with_child zxid count)) m))) [
      | true ↦ λ _. counted
      | false ↦ λ free. elim (is_fit (finite.get m above)) as (λ f. IsCounted (cond f (place_changed (finite.insert m path (new_place path node)) above (with_child zxid count)) m)) [ true ↦ counted_put m path above node zxid count counted tree e free | false ↦ counted ]
    ] refl

module _ (m : SlotMap) (path above : List ℕ) (zxid : ℤ) (counted : IsCounted m) (below : parent_of path ≡ Some above) (there : finite.contains_key m path ≡ true) where
  abbrev rest : SlotMap
  rest = finite.remove m path

  abbrev taken : SlotMap
  taken = place_changed rest above (without_child zxid)

  pub nodes_taken : nodes_at taken ≡ parent_changed (finite.remove (nodes_at m) path) path (nodes.without_child zxid)
  nodes_taken =
      nodes_changed rest above (without_child zxid) (nodes.without_child zxid) (λ p. refl)
      ∙ ap (λ n. changed n above (nodes.without_child zxid)) (nodes-remove m path)
      ∙ ap (λ p. changed_above (finite.remove (nodes_at m) path) p (nodes.without_child zxid)) (sym below)

  count-taken : (q : List ℕ) → count_of (nodes_at taken) q ≡ cond (eq_by_cmp path_cmp q above) (count_of (nodes_at m) q - 1) (count_of (nodes_at m) q)
  count-taken q =
      ap (λ n. count_of n q) (nodes_changed rest above (without_child zxid) (nodes.without_child zxid) (λ p. refl))
      ∙ count-changed (nodes_at rest) above (nodes.without_child zxid) q
      ∙ ap (λ n. count_of n q) (nodes-remove m path)
      ∙ count-remove (nodes_at m) path q
      ∙ ap (λ b. cond (is_child_of q path && b) (count_of (nodes_at m) q - 1) (count_of (nodes_at m) q)) (contains-nodes_at m path ∙ there)
      ∙ ap (λ b. cond (b && true) (count_of (nodes_at m) q - 1) (count_of (nodes_at m) q)) (is_above path above q below)
      ∙ always (eq_by_cmp path_cmp q above) _ _

  -- the rest existed before
  pub left_at : (q : List ℕ) (r : Slot) → finite.get rest q ≡ Some r → finite.get m q ≡ Some r
  left_at q r is = by_test (sym (finite.get-remove nat_list_cmp_total m path q) ∙ is)
    where
      by_test : cond (eq_by_cmp path_cmp q path) None (finite.get m q) ≡ Some r → finite.get m q ≡ Some r
      by_test = elim (eq_by_cmp path_cmp q path) as (λ b. cond b None (finite.get m q) ≡ Some r → finite.get m q ≡ Some r) [ true ↦ λ e. absurd (false≢true (ap is_some e)) | false ↦ λ e. e ]

  taken_at : (q : List ℕ) (r : Slot) → cond (eq_by_cmp path_cmp q above) (option_map (without_child zxid) (finite.get rest q)) (finite.get rest q) ≡ Some r → (r.path ≡ q) × (r.children ≡ cond (eq_by_cmp path_cmp q above) (count_of (nodes_at m) q - 1) (count_of (nodes_at m) q))
  taken_at q r = elim (eq_by_cmp path_cmp q above) as (λ b. cond b (option_map (without_child zxid) (finite.get rest q)) (finite.get rest q) ≡ Some r → (r.path ≡ q) × (r.children ≡ cond b (count_of (nodes_at m) q - 1) (count_of (nodes_at m) q))) [
    | true ↦ λ e.
        let old = was (without_child zxid) (finite.get rest q) r e in
        let before = left_at q old.0 old.1 in
        (sym (ap (λ p. p.path) old.2) ∙ counted.keyed q old.0 before, sym (ap (λ p. p.children) old.2) ∙ ap (λ n. n - 1) (counted.counts q old.0 before))
    | false ↦ λ e. let before = left_at q r e in (counted.keyed q r before, counted.counts q r before)
  ]

  pub counted_taken : IsCounted taken
  counted_taken = record {
    keyed = λ q r is. (taken_at q r (sym (get-changed rest above (without_child zxid) q) ∙ is)).0;
    counts = λ q r is. (taken_at q r (sym (get-changed rest above (without_child zxid) q) ∙ is)).1 ∙ sym (count-taken q);
  }

-- ---- the sessions' nodes

pub owned_turned : (n : NodeMap) (owners : OwnerMap) (path : List ℕ) (change : Node → Node) → ((x : Node) → x.owner ≡ (change x).owner) → IsOwned n owners → IsOwned (changed n path change) owners
owned_turned n owners path change same owned = by_node (finite.get n path) refl
  where
    by_node : (x : Option Node) → finite.get n path ≡ x → IsOwned (changed_found n path change x) owners
    by_node None e = owned
    by_node (Some x) e = owned-changed n owners path (change x) owned (ap (option_map (λ x. x.owner)) e ∙ ap Some (same x))

owned_above : (n : NodeMap) (owners : OwnerMap) (above : Option (List ℕ)) (change : Node → Node) → ((x : Node) → x.owner ≡ (change x).owner) → IsOwned n owners → IsOwned (changed_above n above change) owners
owned_above n owners None change same owned = owned
owned_above n owners (Some above) change same owned = owned_turned n owners above change same owned

-- if a node can be created, its parent has no owner
fit_parent : (n : NodeMap) (path : List ℕ) → create_fault n path ≡ None → (above : List ℕ) → parent_of path ≡ Some above → owner_at n above ≡ Some (pos 0)
fit_parent n path fits above e =
    by_test (finite.contains_key n path) (ap (λ p. cond (finite.contains_key n path) (Some node_exists) (parent_fault (option_and_then (finite.get n) p))) (sym e) ∙ fits)
  where
    by_node : (x : Option Node) → parent_fault x ≡ None → option_map (λ x. x.owner) x ≡ Some (pos 0)
    by_node None f = absurd (false≢true (sym (ap is_some f)))
    by_node (Some x) f = elim (int_eq x.owner (pos 0)) as (λ b. int_eq x.owner (pos 0) ≡ b → cond b None (Some no_children_for_ephemerals) ≡ None → Some x.owner ≡ Some (pos 0)) [
      | true ↦ λ s _. ap Some ((Decides-int_eq x.owner (pos 0)).0 s)
      | false ↦ λ s f. absurd (false≢true (sym (ap is_some f)))
    ] refl f

    by_test : (b : Bool) → cond b (Some node_exists) (parent_fault (finite.get n above)) ≡ None → owner_at n above ≡ Some (pos 0)
    by_test true f = absurd (false≢true (sym (ap is_some f)))
    by_test false f = by_node (finite.get n above) f

pub fit_free : (n : NodeMap) (path : List ℕ) → create_fault n path ≡ None → finite.contains_key n path ≡ false
fit_free n path fits = by_test (finite.contains_key n path) fits
  where
    by_test : (b : Bool) → cond b (Some node_exists) (parent_fault (option_and_then (finite.get n) (parent_of path))) ≡ None → b ≡ false
    by_test true f = absurd (false≢true (sym (ap is_some f)))
    by_test false f = refl

pub owned_made : (n : NodeMap) (owners : OwnerMap) (path : List ℕ) (node : Node) (zxid count : ℤ) → IsOwned n owners → create_fault n path ≡ None → IsOwned (put_below n path node zxid count) (with_owned owners node.owner path)
owned_made n owners path node zxid count owned fits =
    subst (λ (f : Option ℤ). IsOwned (put_unless f n path node zxid count) (with_owned owners node.owner path)) (sym fits)
    (owned_above (finite.insert n path node) (with_owned owners node.owner path) (parent_of path) (nodes.with_child zxid count) (λ x. refl) (owned-put n owners path owned (fit_free n path fits) node (fit_parent n path fits)))

-- a node without owner
pub owned_made_free : (n : NodeMap) (owners : OwnerMap) (path : List ℕ) (node : Node) (zxid count : ℤ) → IsOwned n owners → int_eq node.owner (pos 0) ≡ true → IsOwned (put_below n path node zxid count) owners
owned_made_free n owners path node zxid count owned none = by_fault (create_fault n path) refl
  where
    by_fault : (f : Option ℤ) → create_fault n path ≡ f → IsOwned (put_unless f n path node zxid count) owners
    by_fault (Some f) e = owned
    by_fault None e =
        subst (λ (f : Option ℤ). IsOwned (put_unless f n path node zxid count) owners) e
        (subst (IsOwned (put_below n path node zxid count)) (ap (λ b. cond b owners (finite.insert owners node.owner (finite.insert (set_at owners node.owner) path tt))) none) (owned_made n owners path node zxid count owned e))

pub owned_taken : (n : NodeMap) (owners : OwnerMap) (path above : List ℕ) (zxid : ℤ) (node : Node) → IsOwned n owners → finite.get n path ≡ Some node → parent_of path ≡ Some above → count_of n path ≡ 0 → IsOwned (parent_changed (finite.remove n path) path (nodes.without_child zxid)) (without_owned owners node.owner path)
owned_taken n owners path above zxid node owned here below none =
    owned_above (finite.remove n path) (without_owned owners node.owner path) (parent_of path) (nodes.without_child zxid) (λ x. refl) (owned-taken n owners path above node owned here below none)

-- ---- a path is not its own parent

pub apart : (path above : List ℕ) → fault_of path ≡ None → parent_of path ≡ Some above → eq_by_cmp path_cmp above path ≡ false
apart path above is below = ap is_eq (less path is below)
  where
    less : (path : List ℕ) → fault_of path ≡ None → parent_of path ≡ Some above → path_cmp above path ≡ Less
    less [] e below = absurd (false≢true (sym (ap is_some e)))
    less (b ∷ rest) e below =
        let slash : b ≡ 47 = eqb-true b 47 (path_begins (b ∷ rest) e) in
        subst (λ c. path_cmp above (c ∷ rest) ≡ Less) (sym slash) (parent_less rest above (ap (λ c. parent_of (c ∷ rest)) (sym slash) ∙ below))

-- ---- as the code creates a node

insert_twice : (m : SlotMap) (k : List ℕ) (v w : Slot) → finite.get m k ≡ Some w → finite.insert (finite.insert m k v) k w ≡ m
insert_twice m k v w there =
    finite.same_map nat_list_cmp_total path_cmp-IsAntisymmetric _ _ (λ q. finite.get-insert nat_list_cmp_total (finite.insert m k v) k w q ∙ ap (cond (eq_by_cmp path_cmp q k) (Some w)) (finite.get-insert nat_list_cmp_total m k v q) ∙ back q)
  where
    back : (q : List ℕ) → cond (eq_by_cmp path_cmp q k) (Some w) (cond (eq_by_cmp path_cmp q k) (Some v) (finite.get m q)) ≡ finite.get m q
    back q = elim (eq_by_cmp path_cmp q k) as (λ b. eq_by_cmp path_cmp q k ≡ b → cond b (Some w) (cond b (Some v) (finite.get m q)) ≡ finite.get m q) [
      | true ↦ λ s. sym there ∙ ap (finite.get m) (sym (same_is q k s))
      | false ↦ λ s. refl
    ] refl

module _ (m : SlotMap) (path : List ℕ) (node : Node) (zxid count : ℤ) where
  pub made_nowhere : None ≡ parent_of path → m ≡ made m path node zxid count
  made_nowhere e = ap (made_below m path node zxid count) e

  module _ (above : List ℕ) (below : Some above ≡ parent_of path) where
    abbrev by_tests : Bool → Bool → SlotMap
    by_tests there fit = cond there m (cond fit (place_changed (finite.insert m path (new_place path node)) above (with_child zxid count)) m)

    is_made : by_tests (finite.contains_key m path) (is_fit (finite.get m above)) ≡ made m path node zxid count
    is_made = ap (made_below m path node zxid count) below

    pub made_there : (before : Slot) → Some before ≡ finite.get m path → (t s : SlotMap) → s ≡ finite.insert m path (new_place path node) → t ≡ finite.insert s path before → t ≡ made m path node zxid count
    made_there before there t s put back =
        back ∙ ap (λ s. finite.insert s path before) put ∙ insert_twice m path (new_place path node) before (sym there)
        ∙ ap (λ b. by_tests b (is_fit (finite.get m above))) (ap is_some there) ∙ is_made

    module _ (is_path : fault_of path ≡ None) (free : None ≡ finite.get m path) (s : SlotMap) (put : s ≡ finite.insert m path (new_place path node)) where
      pub above_kept : finite.get s above ≡ finite.get m above
      above_kept = ap (λ s. finite.get s above) put ∙ finite.get-insert nat_list_cmp_total m path (new_place path node) above ∙ ap (λ b. cond b (Some (new_place path node)) (finite.get m above)) (apart path above is_path (sym below))

      by_fit : (b : Bool) → b ≡ is_fit (finite.get s above) → by_tests false b ≡ made m path node zxid count
      by_fit b e = ap (by_tests false) (e ∙ ap is_fit above_kept) ∙ ap (λ b. by_tests b (is_fit (finite.get m above))) (ap is_some free) ∙ is_made

      pub made_fit : true ≡ is_fit (finite.get s above) → (t : SlotMap) → t ≡ place_changed s above (with_child zxid count) → t ≡ made m path node zxid count
      made_fit fit t counted = counted ∙ ap (λ s. place_changed s above (with_child zxid count)) put ∙ by_fit true fit

      pub made_unfit : false ≡ is_fit (finite.get s above) → (t u : SlotMap) → t ≡ s → u ≡ finite.remove t path → u ≡ made m path node zxid count
      made_unfit unfit t u same gone =
          gone ∙ ap (λ t. finite.remove t path) (same ∙ put)
          ∙ remove-insert nat_list_cmp_total path_cmp-IsAntisymmetric m path (new_place path node)
          ∙ remove-missing nat_list_cmp_total path_cmp-IsAntisymmetric m path (sym free)
          ∙ by_fit false unfit

      -- the parent's number of children can grow
      pub room : IsCounted m → finite.len s < 2 ^ 64 → ForSome (finite.get s above) (λ place. place.children + 1 < 2 ^ 64)
      room counted bound = λ place there.
          let before : finite.get m above ≡ Some place = sym above_kept ∙ there in
          let most : count_of (nodes_at m) above ≤ finite.len m = count_at_most m above in
          let is : place.children ≡ count_of (nodes_at m) above = counted.counts above place before in
          let longer : finite.len s ≡ finite.len m + 1 = ap finite.len put ∙ finite.len-insert nat_list_cmp_total m path (new_place path node) ∙ ap (λ b. cond b (finite.len m) (finite.len m + 1)) (ap is_some (sym free)) in
          omega (arith, most, is, longer, bound)

-- ---- as the code stores the sessions' nodes

pub either : (P : SlotMap → Type 0) (r : Result (Unit {0}) NoMemory) (t a b : SlotMap) → OnOk r (t ≡ a) → OnErr r (t ≡ b) → P a → P b → P t
either P (Ok done) t a b ok err pa pb = subst P (sym ok) pa
either P (Err refused) t a b ok err pa pb = subst P (sym err) pb

pub put_told : (r : Result (Unit {0}) NoMemory) (m t : SlotMap) (path : List ℕ) (node : Node) (z k zxid count : ℤ) (now : NodeMap) → nodes_at m ≡ now → z ≡ zxid → k ≡ count → OnOk r (t ≡ made m path node z k) → OnOk r (nodes_at t ≡ put_below now path node zxid count)
put_told (Ok done) m t path node z k zxid count now view zr kr ok =
    ap nodes_at ok ∙ nodes_made m path node z k ∙ ap (λ n. put_below n path node z k) view ∙ ap (λ z. put_below now path node z k) zr ∙ ap (put_below now path node zxid) kr
put_told (Err refused) m t path node z k zxid count now view zr kr ok = tt

-- slots with the index of sessions' nodes
abbrev pub AreNodeIndex : OwnerMap → SlotMap → Type 0
AreNodeIndex owners m = IsCounted m × IsOwned (nodes_at m) owners

pub forest_free : (m : SlotMap) (owners : OwnerMap) (path : List ℕ) (node : Node) (zxid count : ℤ) → AreNodeIndex owners m → int_eq node.owner (pos 0) ≡ true → AreNodeIndex owners (made m path node zxid count)
forest_free m owners path node zxid count forest none = (
  counted_made m path node zxid count forest.0 forest.1.tree,
  subst (λ (n : NodeMap). IsOwned n owners) (sym (nodes_made m path node zxid count)) (owned_made_free (nodes_at m) owners path node zxid count forest.1 none),
)

no_fault : (f : Option ℤ) → true ≡ is_none f → f ≡ None
no_fault None e = refl
no_fault (Some f) e = absurd (false≢true (sym e))

pub forest_owned : (m : SlotMap) (owners : OwnerMap) (path : List ℕ) (node : Node) (zxid count : ℤ) → AreNodeIndex owners m → (now : NodeMap) → nodes_at m ≡ now → true ≡ is_none (create_fault now path) → AreNodeIndex (with_owned owners node.owner path) (made m path node zxid count)
forest_owned m owners path node zxid count forest now view fits = (
  counted_made m path node zxid count forest.0 forest.1.tree,
  subst (λ (n : NodeMap). IsOwned n (with_owned owners node.owner path)) (sym (nodes_made m path node zxid count)) (owned_made (nodes_at m) owners path node zxid count forest.1 (ap (λ n. create_fault n path) view ∙ no_fault (create_fault now path) fits)),
)

-- if a node cannot be created
pub put_nowhere : (n : NodeMap) (path : List ℕ) (node : Node) (zxid count : ℤ) → false ≡ is_none (create_fault n path) → n ≡ put_below n path node zxid count
put_nowhere n path node zxid count unfit = by_fault (create_fault n path) unfit
  where
    by_fault : (f : Option ℤ) → false ≡ is_none f → n ≡ put_unless f n path node zxid count
    by_fault None e = absurd (false≢true e)
    by_fault (Some f) e = refl

-- ---- as the code deletes a node

positive : (n : ℕ) → (n ≡ 0 → ⊥) → 0 < n
positive zero h = absurd (h refl)
positive (suc n) h = omega arith

module _ (m : SlotMap) (path above : List ℕ) (zxid : ℤ) (counted : IsCounted m) (below : parent_of path ≡ Some above) (there : finite.contains_key m path ≡ true) where
  pub child_left : ForSome (finite.get (finite.remove m path) above) (λ place. 0 < place.children)
  child_left = λ place is.
      let count : place.children ≡ count_of (nodes_at m) above = counted.counts above place (left_at m path above zxid counted below there above place is) in
      let some : 0 < count_of (nodes_at m) above =
      positive (count_of (nodes_at m) above) (λ none. false≢true (sym (no_children (nodes_at m) above none path) ∙ ap (λ b. b && finite.contains_key (nodes_at m) path) (is_child above path below) ∙ contains-nodes_at m path ∙ there)) in
      omega (arith, count, some)

  module _ (owners : OwnerMap) (place : Slot) (here : finite.get m path ≡ Some place) (owned : IsOwned (nodes_at m) owners) (none : count_of (nodes_at m) path ≡ 0) where
    node_here : finite.get (nodes_at m) path ≡ Some place.node
    node_here = get-nodes_at m path ∙ ap (option_map (λ p. p.node)) here

    pub forest_taken : AreNodeIndex (without_owned owners place.node.owner path) (place_changed (finite.remove m path) above (without_child zxid))
    forest_taken = (
      counted_taken m path above zxid counted below there,
      subst (λ (n : NodeMap). IsOwned n (without_owned owners place.node.owner path)) (sym (nodes_taken m path above zxid counted below there)) (owned_taken (nodes_at m) owners path above zxid place.node owned node_here below none),
    )

pub free_owner : (z : ℤ) → to_z w64 (of_z w64 z) ≡ z → of_z w64 z ≡ 0 → int_eq z (pos 0) ≡ true
free_owner z same none = ap (λ z. int_eq z (pos 0)) (sym same ∙ ap (to_z w64) none)

pub forest_written : (m : SlotMap) (owners : OwnerMap) (path : List ℕ) (change : Node → Node) → ((x : Node) → x.owner ≡ (change x).owner) → AreNodeIndex owners m → AreNodeIndex owners (place_changed m path (with_node change))
forest_written m owners path change same forest = (
  counted_written m path change forest.0,
  subst (λ (n : NodeMap). IsOwned n owners) (sym (nodes_written m path change forest.0)) (owned_turned (nodes_at m) owners path change same forest.1),
)

-- ---- if a node can be created

pub taken_fault : (n : NodeMap) (path : List ℕ) → finite.contains_key n path ≡ true → is_none (create_fault n path) ≡ false
taken_fault n path there = ap (λ b. is_none (cond b (Some node_exists) (parent_fault (option_and_then (finite.get n) (parent_of path))))) there

pub root_fault : (n : NodeMap) (path : List ℕ) → None ≡ parent_of path → is_none (create_fault n path) ≡ false
root_fault n path none =
    ap (λ p. is_none (cond (finite.contains_key n path) (Some node_exists) (parent_fault (option_and_then (finite.get n) p)))) (sym none)
    ∙ elim (finite.contains_key n path) as (λ b. is_none (cond b (Some node_exists) (Some no_node)) ≡ false) [ true ↦ refl | false ↦ refl ]

fit_fault : (x : Option Slot) → is_none (parent_fault (option_map (λ p. p.node) x)) ≡ is_fit x
fit_fault None = refl
fit_fault (Some p) = elim (int_eq p.node.owner (pos 0)) as (λ b. is_none (cond b None (Some no_children_for_ephemerals)) ≡ b) [ true ↦ refl | false ↦ refl ]

pub open_is : (m : SlotMap) (path above : List ℕ) → Some above ≡ parent_of path → finite.contains_key m path ≡ false → is_fit (finite.get m above) ≡ is_none (create_fault (nodes_at m) path)
open_is m path above below free =
    sym (fit_fault (finite.get m above))
    ∙ ap (λ x. is_none (parent_fault x)) (sym (get-nodes_at m above))
    ∙ ap (λ p. is_none (parent_fault (option_and_then (finite.get (nodes_at m)) p))) below
    ∙ ap (λ b. is_none (cond b (Some node_exists) (parent_fault (option_and_then (finite.get (nodes_at m)) (parent_of path))))) (sym (contains-nodes_at m path ∙ free))

-- a path that was added to the index, and removed
pub forest_again : (m : SlotMap) (owners : OwnerMap) (path : List ℕ) (owner : ℤ) → AreNodeIndex owners m → (now : NodeMap) → nodes_at m ≡ now → true ≡ is_none (create_fault now path) → AreNodeIndex (without_owned (with_owned owners owner path) owner path) m
forest_again m owners path owner forest now view fits =
    (forest.0, owned-unput (nodes_at m) owners path forest.1 (fit_free (nodes_at m) path (ap (λ n. create_fault n path) view ∙ no_fault (create_fault now path) fits)) owner)

-- the owner that the code tests
pub owner_test : (z : ℤ) → to_z w64 (of_z w64 z) ≡ z → (of_z w64 z == 0) ≡ int_eq z (pos 0)
owner_test z same = elim (of_z w64 z == 0) as (λ b. (of_z w64 z == 0) ≡ b → b ≡ int_eq z (pos 0)) [
  | true ↦ λ e. sym (free_owner z same (eqb-true (of_z w64 z) 0 e))
  | false ↦ λ e. sym (owns_some z (eqb-false (of_z w64 z) 0 e))
] refl
