-- The effect of a change of one slot on all.
use Rattle.std.proofs.Common.{◌≡◌, ℕ, Bool, true, false, cond, not, ◌||◌, ◌&&◌, List, [], ◌∷◌, map, length, unwrap_or, Option, Some, None, is_some, refl, sym, ap, subst, ◌∙◌}
use Rattle.std.proofs.lemmas.Bool.{false≢true}
use Rattle.std.proofs.lemmas.Cmp.{nat_list_cmp_total}
use Rattle.std.specs.FinMap as finite
use Rattle.std.specs.FinMap.{find}
use Rattle.std.specs.Option.{option_map}
use Rattle.std.specs.Ordering.{eq_by_cmp}
use Rattle.zk_path.specs.Paths.{parent_of}
use Rattle.zk_table.specs.declared.node.Node.{Node}
use Rattle.zk_table.specs.States.{path_cmp, is_child_of, is_parent, children_of}
use Rattle.zk_tree.specs.declared.slots.Slot.{Slot}
use Rattle.zk_tree.specs.Branches.{SlotMap, IsBranching, AreKept, nodes_of, new_slot, with_child, without_child, with_node, slot_changed, slot_changed_found}
use Rattle.zk_tree.specs.Views.{PathKeys}
use Rattle.zk_tree.proofs.Kept.{path_cmp-IsAntisymmetric, tests_alike, contains_key-insert, contains_key-remove, get-insert_itself, same_members}
use Rattle.zk_tree.proofs.Lists.{same_is, same_itself, no_children}

-- ---- a change of one slot

pub changed_slot : (m : SlotMap) (path : List ℕ) (change : Slot → Slot) (slot new : Slot) → finite.get m path ≡ Some slot → new ≡ change slot → finite.insert m path new ≡ slot_changed m path change
changed_slot m path change slot new there is = ap (finite.insert m path) is ∙ ap (slot_changed_found m path change) (sym there)

pub missing_slot : (m : SlotMap) (path : List ℕ) (change : Slot → Slot) → finite.get m path ≡ None → m ≡ slot_changed m path change
missing_slot m path change none = ap (slot_changed_found m path change) (sym none)

-- ---- the nodes of slots

find-nodes : (q : List ℕ) (es : List (List ℕ × Slot)) → find path_cmp q (map (λ e. (e.0, e.1.node)) es) ≡ option_map (λ s. s.node) (find path_cmp q es)
find-nodes q [] = refl
find-nodes q (e ∷ es) =
    elim (eq_by_cmp path_cmp q e.0) as (λ b. cond b (Some e.1.node) (find path_cmp q (map (λ e. (e.0, e.1.node)) es)) ≡ option_map (λ s. s.node) (cond b (Some e.1) (find path_cmp q es))) [ true ↦ refl | false ↦ find-nodes q es ]

pub get-nodes_of : (m : SlotMap) (q : List ℕ) → finite.get (nodes_of m) q ≡ option_map (λ s. s.node) (finite.get m q)
get-nodes_of m q = finite.get-from_entries nat_list_cmp_total _ q ∙ find-nodes q (finite.entries m) ∙ ap (option_map (λ s. s.node)) (sym (finite.get-entries m q))

no_node : (x : Option Slot) → option_map (λ s. s.node) x ≡ None → x ≡ None
no_node None e = refl
no_node (Some s) e = absurd (false≢true (sym (ap is_some e)))

pub free_slot : (m : SlotMap) (q : List ℕ) → finite.get (nodes_of m) q ≡ None → finite.get m q ≡ None
free_slot m q e = no_node _ (sym (get-nodes_of m q) ∙ e)

some_node : (x : Option Slot) → is_some (option_map (λ s. s.node) x) ≡ is_some x
some_node None = refl
some_node (Some s) = refl

pub contains_key-nodes_of : (m : SlotMap) (q : List ℕ) → finite.contains_key (nodes_of m) q ≡ finite.contains_key m q
contains_key-nodes_of m q = ap is_some (get-nodes_of m q) ∙ some_node _

pub found_slot : (x : Option Slot) → is_some x ≡ true → (s : Slot) × (x ≡ Some s)
found_slot None e = absurd (false≢true e)
found_slot (Some s) e = (s, refl)

pub slot_there : (m : SlotMap) (q : List ℕ) → finite.contains_key (nodes_of m) q ≡ true → (s : Slot) × (finite.get m q ≡ Some s)
slot_there m q there = found_slot _ (sym (contains_key-nodes_of m q) ∙ there)

-- ---- paths and parents

unlike : (q k : List ℕ) → eq_by_cmp path_cmp q k ≡ false → k ≡ q → ⊥
unlike q k e is = false≢true (sym e ∙ ap (eq_by_cmp path_cmp q) is ∙ same_itself q)

-- a child's parent, by the test
pub child_parent : (p q : List ℕ) → is_child_of p q ≡ true → parent_of q ≡ Some p
child_parent p q e = of_parent (parent_of q) e
  where
    of_parent : (above : Option (List ℕ)) → is_parent above p ≡ true → above ≡ Some p
    of_parent None e = absurd (false≢true e)
    of_parent (Some above) e = ap Some (sym (same_is p above (sym (tests_alike above p) ∙ e)))

pub is_child : (p q : List ℕ) → parent_of q ≡ Some p → is_child_of p q ≡ true
is_child p q e = ap (λ above. is_parent above p) e ∙ tests_alike p p ∙ same_itself p

pub none_not_some : {A : Type 0} {x : Option A} {a : A} → x ≡ None → x ≡ Some a → ⊥
none_not_some e f = false≢true (ap is_some (sym e ∙ f))

-- the parents of equal paths are equal
same_parent : (q k p above : List ℕ) → q ≡ k → parent_of q ≡ Some p → parent_of k ≡ Some above → p ≡ above
same_parent q k p above e f g = ap (λ o. unwrap_or o p) (sym f ∙ ap parent_of e ∙ g)

-- ---- tests

or_right : (a b : Bool) → b ≡ true → (a || b) ≡ true
or_right true b e = refl
or_right false b e = e

and_false : (a : Bool) → (a && false) ≡ false
and_false true = refl
and_false false = refl

-- a implies b
or_and : (a b c : Bool) → (a ≡ true → b ≡ true) → (a || (b && c)) ≡ (b && (a || c))
or_and true b c h = ap (λ x. x && true) (sym (h refl))
or_and false b c h = refl

-- a and b exclude each other
and_or : (a b c : Bool) → (a ≡ true → b ≡ true → ⊥) → (b && c) ≡ (b && (a || c))
and_or true true c h = absurd (h refl refl)
and_or true false c h = refl
and_or false b c h = refl

and_swap : (a b c : Bool) → (a && (b && c)) ≡ (b && (a && c))
and_swap true b c = refl
and_swap false b c = sym (and_false b)

and_without : (a b c : Bool) → (a ≡ true → b ≡ true → ⊥) → (b && c) ≡ (b && (not a && c))
and_without true true c h = absurd (h refl refl)
and_without true false c h = refl
and_without false b c h = refl

and_right : (a b : Bool) → (a && b) ≡ true → b ≡ true
and_right true b e = e
and_right false b e = absurd (false≢true e)

-- ---- a new node

module _ (m : SlotMap) (path above : List ℕ) (parent : Slot) (node : Node) (tree : IsBranching m) (free : finite.get m path ≡ None) (below : parent_of path ≡ Some above) (there : finite.get m above ≡ Some parent) where
  abbrev told : SlotMap
  told = finite.insert m above (with_child path parent)

  abbrev put : SlotMap
  put = finite.insert told path (new_slot path node)

  -- the parent's path has a node, and the new path does not
  above_there : (q : List ℕ) → q ≡ above → finite.get m q ≡ Some parent
  above_there q e = ap (finite.get m) e ∙ there

  not_above : path ≡ above → ⊥
  not_above e = none_not_some free (above_there path e)

  get-put : (q : List ℕ) → finite.get put q ≡ cond (eq_by_cmp path_cmp q path) (Some (new_slot path node)) (cond (eq_by_cmp path_cmp q above) (Some (with_child path parent)) (finite.get m q))
  get-put q = finite.get-insert nat_list_cmp_total told path _ q ∙ ap (cond (eq_by_cmp path_cmp q path) (Some (new_slot path node))) (finite.get-insert nat_list_cmp_total m above (with_child path parent) q)

  node_put : (q : List ℕ) → option_map (λ s. s.node) (cond (eq_by_cmp path_cmp q path) (Some (new_slot path node)) (cond (eq_by_cmp path_cmp q above) (Some (with_child path parent)) (finite.get m q))) ≡ cond (eq_by_cmp path_cmp q path) (Some node) (finite.get (nodes_of m) q)
  node_put q =
      elim (eq_by_cmp path_cmp q path) as (λ b. option_map (λ s. s.node) (cond b (Some (new_slot path node)) (cond (eq_by_cmp path_cmp q above) (Some (with_child path parent)) (finite.get m q))) ≡ cond b (Some node) (finite.get (nodes_of m) q)) [
        | true ↦ refl
        | false ↦ elim (eq_by_cmp path_cmp q above) as (λ b. eq_by_cmp path_cmp q above ≡ b → option_map (λ s. s.node) (cond b (Some (with_child path parent)) (finite.get m q)) ≡ finite.get (nodes_of m) q) [
          | true ↦ λ s. ap (option_map (λ s. s.node)) (sym (above_there q (same_is q above s))) ∙ sym (get-nodes_of m q)
          | false ↦ λ s. sym (get-nodes_of m q)
        ] refl
      ]

  pub nodes-put : nodes_of put ≡ finite.insert (nodes_of m) path node
  nodes-put = finite.same_map nat_list_cmp_total path_cmp-IsAntisymmetric _ _ (λ q. get-nodes_of put q ∙ ap (option_map (λ s. s.node)) (get-put q) ∙ node_put q ∙ sym (finite.get-insert nat_list_cmp_total (nodes_of m) path node q))

  some_put : (q : List ℕ) → is_some (cond (eq_by_cmp path_cmp q path) (Some (new_slot path node)) (cond (eq_by_cmp path_cmp q above) (Some (with_child path parent)) (finite.get m q))) ≡ (eq_by_cmp path_cmp q path || finite.contains_key m q)
  some_put q =
      elim (eq_by_cmp path_cmp q path) as (λ b. is_some (cond b (Some (new_slot path node)) (cond (eq_by_cmp path_cmp q above) (Some (with_child path parent)) (finite.get m q))) ≡ (b || finite.contains_key m q)) [
        | true ↦ refl
        | false ↦ elim (eq_by_cmp path_cmp q above) as (λ b. eq_by_cmp path_cmp q above ≡ b → is_some (cond b (Some (with_child path parent)) (finite.get m q)) ≡ finite.contains_key m q) [
          | true ↦ λ s. ap is_some (sym (above_there q (same_is q above s)))
          | false ↦ λ s. refl
        ] refl
      ]

  keys-put : (q : List ℕ) → finite.contains_key put q ≡ (eq_by_cmp path_cmp q path || finite.contains_key m q)
  keys-put q = ap is_some (get-put q) ∙ some_put q

  keyed_put : (p : List ℕ) (slot : Slot) → cond (eq_by_cmp path_cmp p path) (Some (new_slot path node)) (cond (eq_by_cmp path_cmp p above) (Some (with_child path parent)) (finite.get m p)) ≡ Some slot → slot.path ≡ p
  keyed_put p slot is =
      elim (eq_by_cmp path_cmp p path) as (λ b. eq_by_cmp path_cmp p path ≡ b → cond b (Some (new_slot path node)) (cond (eq_by_cmp path_cmp p above) (Some (with_child path parent)) (finite.get m p)) ≡ Some slot → slot.path ≡ p) [
        | true ↦ λ s is. ap (λ o. (unwrap_or o slot).path) (sym is) ∙ sym (same_is p path s)
        | false ↦ λ s. elim (eq_by_cmp path_cmp p above) as (λ b. eq_by_cmp path_cmp p above ≡ b → cond b (Some (with_child path parent)) (finite.get m p) ≡ Some slot → slot.path ≡ p) [
          | true ↦ λ t is. ap (λ o. (unwrap_or o slot).path) (sym is) ∙ tree.keyed.paths above parent there ∙ sym (same_is p above t)
          | false ↦ λ t is. tree.keyed.paths p slot is
        ] refl
      ] refl is

  not_own_child : (q : List ℕ) → q ≡ path → parent_of q ≡ Some path → ⊥
  not_own_child q e f = not_above (same_parent q path path above e f below)

  no_child : (q : List ℕ) → (is_child_of path q && (eq_by_cmp path_cmp q path || finite.contains_key m q)) ≡ false
  no_child q =
      elim (is_child_of path q) as (λ b. is_child_of path q ≡ b → (b && (eq_by_cmp path_cmp q path || finite.contains_key m q)) ≡ false) [
        | true ↦ λ c. elim (eq_by_cmp path_cmp q path) as (λ b. eq_by_cmp path_cmp q path ≡ b → (b || finite.contains_key m q) ≡ false) [
          | true ↦ λ s. absurd (not_own_child q (same_is q path s) (child_parent path q c))
          | false ↦ λ s. elim (finite.contains_key m q) as (λ b. finite.contains_key m q ≡ b → b ≡ false) [
            | true ↦ λ k. absurd (false≢true (ap is_some (sym free) ∙ tree.parents q path k (child_parent path q c)))
            | false ↦ λ k. refl
          ] refl
        ] refl
        | false ↦ λ c. refl
      ] refl

  children_put : (p : List ℕ) (slot : Slot) → cond (eq_by_cmp path_cmp p path) (Some (new_slot path node)) (cond (eq_by_cmp path_cmp p above) (Some (with_child path parent)) (finite.get m p)) ≡ Some slot → (q : List ℕ) → finite.contains_key slot.children q ≡ (is_child_of p q && (eq_by_cmp path_cmp q path || finite.contains_key m q))
  children_put p slot is q =
      elim (eq_by_cmp path_cmp p path) as (λ b. eq_by_cmp path_cmp p path ≡ b → cond b (Some (new_slot path node)) (cond (eq_by_cmp path_cmp p above) (Some (with_child path parent)) (finite.get m p)) ≡ Some slot → finite.contains_key slot.children q ≡ (is_child_of p q && (eq_by_cmp path_cmp q path || finite.contains_key m q))) [
        | true ↦ λ s is. ap (λ o. finite.contains_key (unwrap_or o slot).children q) (sym is) ∙ ap is_some (finite.get-empty path_cmp q) ∙ sym (ap (λ k. is_child_of k q && (eq_by_cmp path_cmp q path || finite.contains_key m q)) (same_is p path s) ∙ no_child q)
        | false ↦ λ s. elim (eq_by_cmp path_cmp p above) as (λ b. eq_by_cmp path_cmp p above ≡ b → cond b (Some (with_child path parent)) (finite.get m p) ≡ Some slot → finite.contains_key slot.children q ≡ (is_child_of p q && (eq_by_cmp path_cmp q path || finite.contains_key m q))) [
          | true ↦ λ t is. ap (λ o. finite.contains_key (unwrap_or o slot).children q) (sym is)
              ∙ contains_key-insert nat_list_cmp_total parent.children path tt q
              ∙ ap (λ b. eq_by_cmp path_cmp q path || b) (tree.children above parent there q)
              ∙ or_and (eq_by_cmp path_cmp q path) (is_child_of above q) (finite.contains_key m q) (λ s. is_child above q (ap parent_of (same_is q path s) ∙ below))
              ∙ ap (λ k. is_child_of k q && (eq_by_cmp path_cmp q path || finite.contains_key m q)) (sym (same_is p above t))
          | false ↦ λ t is. tree.children p slot is q ∙ and_or (eq_by_cmp path_cmp q path) (is_child_of p q) (finite.contains_key m q) (λ s c. unlike p above t (sym (same_parent q path p above (same_is q path s) (child_parent p q c) below)))
        ] refl
      ] refl is

  parents_put : (q p : List ℕ) → (eq_by_cmp path_cmp q path || finite.contains_key m q) ≡ true → parent_of q ≡ Some p → finite.contains_key m p ≡ true
  parents_put q p k e =
      elim (eq_by_cmp path_cmp q path) as (λ b. eq_by_cmp path_cmp q path ≡ b → (b || finite.contains_key m q) ≡ true → finite.contains_key m p ≡ true) [
        | true ↦ λ s _. ap is_some (above_there p (same_parent q path p above (same_is q path s) e below))
        | false ↦ λ s k. tree.parents q p k e
      ] refl k

  pub branching-put : IsBranching put
  branching-put = record {
    keyed = record { paths = λ p slot is. keyed_put p slot (sym (get-put p) ∙ is) };
    children = λ p slot is q. children_put p slot (sym (get-put p) ∙ is) q ∙ ap (λ b. is_child_of p q && b) (sym (keys-put q));
    parents = λ q p k e. keys-put p ∙ or_right (eq_by_cmp path_cmp p path) _ (parents_put q p (sym (keys-put q) ∙ k) e);
  }

  -- ---- the changed parent, and the node for which an allocation failed

  not_yet : finite.contains_key parent.children path ≡ false
  not_yet = tree.children above parent there path ∙ ap (λ b. is_child_of above path && b) (ap is_some free) ∙ and_false _

  kept_child : (q : List ℕ) → (not (eq_by_cmp path_cmp q path) && (eq_by_cmp path_cmp q path || finite.contains_key parent.children q)) ≡ finite.contains_key parent.children q
  kept_child q =
      elim (eq_by_cmp path_cmp q path) as (λ b. eq_by_cmp path_cmp q path ≡ b → (not b && (b || finite.contains_key parent.children q)) ≡ finite.contains_key parent.children q) [
        | true ↦ λ s. sym not_yet ∙ ap (finite.contains_key parent.children) (sym (same_is q path s))
        | false ↦ λ s. refl
      ] refl

  same_children : finite.remove (finite.insert parent.children path tt) path ≡ parent.children
  same_children = same_members _ _ (λ q. contains_key-remove nat_list_cmp_total (finite.insert parent.children path tt) path q ∙ ap (λ b. not (eq_by_cmp path_cmp q path) && b) (contains_key-insert nat_list_cmp_total parent.children path tt q) ∙ kept_child q)

  told_there : finite.get told above ≡ Some (with_child path parent)
  told_there = get-insert_itself nat_list_cmp_total m above (with_child path parent)

  twice : (q : List ℕ) → finite.get (finite.insert told above parent) q ≡ finite.get m q
  twice q =
      finite.get-insert nat_list_cmp_total told above parent q ∙ ap (cond (eq_by_cmp path_cmp q above) (Some parent)) (finite.get-insert nat_list_cmp_total m above (with_child path parent) q)
      ∙ elim (eq_by_cmp path_cmp q above) as (λ b. eq_by_cmp path_cmp q above ≡ b → cond b (Some parent) (cond b (Some (with_child path parent)) (finite.get m q)) ≡ finite.get m q) [
        | true ↦ λ s. sym (above_there q (same_is q above s))
        | false ↦ λ s. refl
      ] refl

  pub untold : slot_changed told above (without_child path) ≡ m
  untold =
      sym (changed_slot told above (without_child path) (with_child path parent) parent told_there (ap (λ s. record parent { children = s }) (sym same_children)))
      ∙ finite.same_map nat_list_cmp_total path_cmp-IsAntisymmetric _ _ twice

-- ---- the steps of putting a node below its parent

module _ (m : SlotMap) (path above : List ℕ) (tree : IsBranching m) (free : finite.get (nodes_of m) path ≡ None) (below : Some above ≡ parent_of path) (there : finite.contains_key (nodes_of m) above ≡ true) (child : List ℕ) (same : child ≡ path) (s : SlotMap) (is : s ≡ slot_changed m above (with_child child)) where
  parent_slot : (p : Slot) × (finite.get m above ≡ Some p)
  parent_slot = slot_there m above there

  is_told : s ≡ finite.insert m above (with_child path parent_slot.0)
  is_told = is ∙ ap (λ c. slot_changed m above (with_child c)) same ∙ sym (changed_slot m above (with_child path) parent_slot.0 _ parent_slot.1 refl)

  module _ (node : Node) (key : List ℕ) (same_key : key ≡ path) (children : PathKeys) (none : children ≡ finite.empty) (t : SlotMap) (put : t ≡ finite.insert s key (record { path = path; node = node; children = children })) where
    is_put : t ≡ finite.insert (finite.insert m above (with_child path parent_slot.0)) path (new_slot path node)
    is_put = put ∙ ap (λ s. finite.insert s key (record { path = path; node = node; children = children })) is_told ∙ ap (λ k. finite.insert (finite.insert m above (with_child path parent_slot.0)) k (record { path = path; node = node; children = children })) same_key ∙ ap (λ c. finite.insert (finite.insert m above (with_child path parent_slot.0)) path (record { path = path; node = node; children = c })) none

    pub branching_placed : IsBranching t
    branching_placed = subst IsBranching (sym is_put) (branching-put m path above parent_slot.0 node tree (free_slot m path free) (sym below) parent_slot.1)

    pub nodes_placed : nodes_of t ≡ finite.insert (nodes_of m) path node
    nodes_placed = ap nodes_of is_put ∙ nodes-put m path above parent_slot.0 node tree (free_slot m path free) (sym below) parent_slot.1

  pub unplaced : (t u : SlotMap) → t ≡ s → u ≡ slot_changed t above (without_child path) → u ≡ m
  unplaced t u kept lost =
      lost ∙ ap (λ s. slot_changed s above (without_child path)) (kept ∙ is_told) ∙ untold m path above parent_slot.0 parent_slot.0.node tree (free_slot m path free) (sym below) parent_slot.1

-- ---- a path without a node has no children

pub nobody : (m : SlotMap) → IsBranching m → (p : List ℕ) → finite.get m p ≡ None → (q : List ℕ) → (is_child_of p q && finite.contains_key m q) ≡ false
nobody m tree p none q =
    elim (is_child_of p q) as (λ b. is_child_of p q ≡ b → (b && finite.contains_key m q) ≡ false) [
      | true ↦ λ c. elim (finite.contains_key m q) as (λ b. finite.contains_key m q ≡ b → b ≡ false) [
        | true ↦ λ k. absurd (false≢true (ap is_some (sym none) ∙ tree.parents q p k (child_parent p q c)))
        | false ↦ λ k. refl
      ] refl
      | false ↦ λ c. refl
    ] refl

-- ---- replacing a node

module _ (m : SlotMap) (path : List ℕ) (slot : Slot) (node : Node) (tree : IsBranching m) (there : finite.get m path ≡ Some slot) where
  abbrev turned : SlotMap
  turned = finite.insert m path (with_node node slot)

  get-turned : (q : List ℕ) → finite.get turned q ≡ cond (eq_by_cmp path_cmp q path) (Some (with_node node slot)) (finite.get m q)
  get-turned q = finite.get-insert nat_list_cmp_total m path (with_node node slot) q

  slot_there_at : (q : List ℕ) → q ≡ path → finite.get m q ≡ Some slot
  slot_there_at q e = ap (finite.get m) e ∙ there

  node_turned : (q : List ℕ) → option_map (λ s. s.node) (cond (eq_by_cmp path_cmp q path) (Some (with_node node slot)) (finite.get m q)) ≡ cond (eq_by_cmp path_cmp q path) (Some node) (finite.get (nodes_of m) q)
  node_turned q = elim (eq_by_cmp path_cmp q path) as (λ b. option_map (λ s. s.node) (cond b (Some (with_node node slot)) (finite.get m q)) ≡ cond b (Some node) (finite.get (nodes_of m) q)) [ true ↦ refl | false ↦ sym (get-nodes_of m q) ]

  pub nodes-turned : nodes_of turned ≡ finite.insert (nodes_of m) path node
  nodes-turned = finite.same_map nat_list_cmp_total path_cmp-IsAntisymmetric _ _ (λ q. get-nodes_of turned q ∙ ap (option_map (λ s. s.node)) (get-turned q) ∙ node_turned q ∙ sym (finite.get-insert nat_list_cmp_total (nodes_of m) path node q))

  some_turned : (q : List ℕ) → is_some (cond (eq_by_cmp path_cmp q path) (Some (with_node node slot)) (finite.get m q)) ≡ finite.contains_key m q
  some_turned q =
      elim (eq_by_cmp path_cmp q path) as (λ b. eq_by_cmp path_cmp q path ≡ b → is_some (cond b (Some (with_node node slot)) (finite.get m q)) ≡ finite.contains_key m q) [
        | true ↦ λ s. ap is_some (sym (slot_there_at q (same_is q path s)))
        | false ↦ λ s. refl
      ] refl

  keys-turned : (q : List ℕ) → finite.contains_key turned q ≡ finite.contains_key m q
  keys-turned q = ap is_some (get-turned q) ∙ some_turned q

  -- the rest of each slot is unchanged
  same_turned : {A : Type 0} (part : Slot → A) → part (with_node node slot) ≡ part slot → (p : List ℕ) (s : Slot) → cond (eq_by_cmp path_cmp p path) (Some (with_node node slot)) (finite.get m p) ≡ Some s → (t : Slot) × (finite.get m p ≡ Some t) × (part s ≡ part t)
  same_turned {A} part same p s is =
      elim (eq_by_cmp path_cmp p path) as (λ b. eq_by_cmp path_cmp p path ≡ b → cond b (Some (with_node node slot)) (finite.get m p) ≡ Some s → (t : Slot) × (finite.get m p ≡ Some t) × (part s ≡ part t)) [
        | true ↦ λ e is. (slot, slot_there_at p (same_is p path e), ap (λ o. part (unwrap_or o s)) (sym is) ∙ same)
        | false ↦ λ e is. (s, is, refl)
      ] refl is

  keyed_turned : (p : List ℕ) (s : Slot) → finite.get turned p ≡ Some s → s.path ≡ p
  keyed_turned p s is = let old = same_turned (λ s. s.path) refl p s (sym (get-turned p) ∙ is) in old.2 ∙ tree.keyed.paths p old.0 old.1

  children_turned : (p : List ℕ) (s : Slot) → finite.get turned p ≡ Some s → (q : List ℕ) → finite.contains_key s.children q ≡ (is_child_of p q && finite.contains_key turned q)
  children_turned p s is q =
      let old = same_turned (λ s. s.children) refl p s (sym (get-turned p) ∙ is) in
      ap (λ c. finite.contains_key c q) old.2 ∙ tree.children p old.0 old.1 q ∙ ap (λ b. is_child_of p q && b) (sym (keys-turned q))

  pub branching-turned : IsBranching turned
  branching-turned = record {
    keyed = record { paths = keyed_turned };
    children = children_turned;
    parents = λ q p k e. keys-turned p ∙ tree.parents q p (sym (keys-turned q) ∙ k) e;
  }

module _ (m : SlotMap) (path : List ℕ) (node : Node) (tree : IsBranching m) (there : finite.contains_key (nodes_of m) path ≡ true) (t : SlotMap) (is : t ≡ slot_changed m path (with_node node)) where
  old_slot : (s : Slot) × (finite.get m path ≡ Some s)
  old_slot = slot_there m path there

  is_turned : t ≡ finite.insert m path (with_node node old_slot.0)
  is_turned = is ∙ sym (changed_slot m path (with_node node) old_slot.0 _ old_slot.1 refl)

  pub branching_changed : IsBranching t
  branching_changed = subst IsBranching (sym is_turned) (branching-turned m path old_slot.0 node tree old_slot.1)

  pub nodes_changed : nodes_of t ≡ finite.insert (nodes_of m) path node
  nodes_changed = ap nodes_of is_turned ∙ nodes-turned m path old_slot.0 node tree old_slot.1

-- ---- deleting a node

module _ (m : SlotMap) (path above : List ℕ) (slot parent : Slot) (tree : IsBranching m) (here : finite.get m path ≡ Some slot) (below : parent_of path ≡ Some above) (there : finite.get m above ≡ Some parent) (childless : (q : List ℕ) → (is_child_of path q && finite.contains_key m q) ≡ false) where
  abbrev left : SlotMap
  left = finite.insert m above (without_child path parent)

  abbrev rest : SlotMap
  rest = finite.remove left path

  parent_at : (q : List ℕ) → q ≡ above → finite.get m q ≡ Some parent
  parent_at q e = ap (finite.get m) e ∙ there

  -- the deleted node has no child
  no_child_there : (q : List ℕ) → parent_of q ≡ Some path → finite.contains_key m q ≡ true → ⊥
  no_child_there q e k = false≢true (sym (childless q) ∙ ap (λ b. b && finite.contains_key m q) (is_child path q e) ∙ k)

  not_its_parent : eq_by_cmp path_cmp path above ≡ false
  not_its_parent =
      elim (eq_by_cmp path_cmp path above) as (λ b. eq_by_cmp path_cmp path above ≡ b → b ≡ false) [
        | true ↦ λ s. absurd (no_child_there path (below ∙ ap Some (sym (same_is path above s))) (ap is_some here))
        | false ↦ λ s. refl
      ] refl

  pub still_there : finite.get left path ≡ Some slot
  still_there = finite.get-insert nat_list_cmp_total m above (without_child path parent) path ∙ ap (λ b. cond b (Some (without_child path parent)) (finite.get m path)) not_its_parent ∙ here

  get-rest : (q : List ℕ) → finite.get rest q ≡ cond (eq_by_cmp path_cmp q path) None (cond (eq_by_cmp path_cmp q above) (Some (without_child path parent)) (finite.get m q))
  get-rest q = finite.get-remove nat_list_cmp_total left path q ∙ ap (cond (eq_by_cmp path_cmp q path) None) (finite.get-insert nat_list_cmp_total m above (without_child path parent) q)

  -- a part of a slot besides its children
  read_rest : {A : Type 0} (read : Option Slot → A) → read (Some (without_child path parent)) ≡ read (Some parent) → (q : List ℕ) → read (cond (eq_by_cmp path_cmp q path) None (cond (eq_by_cmp path_cmp q above) (Some (without_child path parent)) (finite.get m q))) ≡ cond (eq_by_cmp path_cmp q path) (read None) (read (finite.get m q))
  read_rest read same q =
      elim (eq_by_cmp path_cmp q path) as (λ b. read (cond b None (cond (eq_by_cmp path_cmp q above) (Some (without_child path parent)) (finite.get m q))) ≡ cond b (read None) (read (finite.get m q))) [
        | true ↦ refl
        | false ↦ elim (eq_by_cmp path_cmp q above) as (λ b. eq_by_cmp path_cmp q above ≡ b → read (cond b (Some (without_child path parent)) (finite.get m q)) ≡ read (finite.get m q)) [
          | true ↦ λ s. same ∙ ap read (sym (parent_at q (same_is q above s)))
          | false ↦ λ s. refl
        ] refl
      ]

  pub nodes-rest : nodes_of rest ≡ finite.remove (nodes_of m) path
  nodes-rest =
      finite.same_map nat_list_cmp_total path_cmp-IsAntisymmetric _ _ (λ q. get-nodes_of rest q
      ∙ ap (option_map (λ s. s.node)) (get-rest q)
      ∙ read_rest (option_map (λ s. s.node)) refl q
      ∙ ap (cond (eq_by_cmp path_cmp q path) None) (sym (get-nodes_of m q))
      ∙ sym (finite.get-remove nat_list_cmp_total (nodes_of m) path q))

  none_is_not : (b x : Bool) → cond b false x ≡ (not b && x)
  none_is_not true x = refl
  none_is_not false x = refl

  keys-rest : (q : List ℕ) → finite.contains_key rest q ≡ (not (eq_by_cmp path_cmp q path) && finite.contains_key m q)
  keys-rest q = ap is_some (get-rest q) ∙ read_rest is_some refl q ∙ none_is_not (eq_by_cmp path_cmp q path) (finite.contains_key m q)

  keyed_rest : (p : List ℕ) (s : Slot) → cond (eq_by_cmp path_cmp p path) None (cond (eq_by_cmp path_cmp p above) (Some (without_child path parent)) (finite.get m p)) ≡ Some s → s.path ≡ p
  keyed_rest p s is =
      elim (eq_by_cmp path_cmp p path) as (λ b. cond b None (cond (eq_by_cmp path_cmp p above) (Some (without_child path parent)) (finite.get m p)) ≡ Some s → s.path ≡ p) [
        | true ↦ λ is. absurd (none_not_some {A = Slot} {x = None} refl is)
        | false ↦ elim (eq_by_cmp path_cmp p above) as (λ b. eq_by_cmp path_cmp p above ≡ b → cond b (Some (without_child path parent)) (finite.get m p) ≡ Some s → s.path ≡ p) [
          | true ↦ λ t is. ap (λ o. (unwrap_or o s).path) (sym is) ∙ tree.keyed.paths above parent there ∙ sym (same_is p above t)
          | false ↦ λ t is. tree.keyed.paths p s is
        ] refl
      ] is

  children_rest : (p : List ℕ) (s : Slot) → cond (eq_by_cmp path_cmp p path) None (cond (eq_by_cmp path_cmp p above) (Some (without_child path parent)) (finite.get m p)) ≡ Some s → (q : List ℕ) → finite.contains_key s.children q ≡ (is_child_of p q && (not (eq_by_cmp path_cmp q path) && finite.contains_key m q))
  children_rest p s is q =
      elim (eq_by_cmp path_cmp p path) as (λ b. cond b None (cond (eq_by_cmp path_cmp p above) (Some (without_child path parent)) (finite.get m p)) ≡ Some s → finite.contains_key s.children q ≡ (is_child_of p q && (not (eq_by_cmp path_cmp q path) && finite.contains_key m q))) [
        | true ↦ λ is. absurd (none_not_some {A = Slot} {x = None} refl is)
        | false ↦ elim (eq_by_cmp path_cmp p above) as (λ b. eq_by_cmp path_cmp p above ≡ b → cond b (Some (without_child path parent)) (finite.get m p) ≡ Some s → finite.contains_key s.children q ≡ (is_child_of p q && (not (eq_by_cmp path_cmp q path) && finite.contains_key m q))) [
          | true ↦ λ t is. ap (λ o. finite.contains_key (unwrap_or o s).children q) (sym is)
              ∙ contains_key-remove nat_list_cmp_total parent.children path q
              ∙ ap (λ b. not (eq_by_cmp path_cmp q path) && b) (tree.children above parent there q)
              ∙ and_swap (not (eq_by_cmp path_cmp q path)) (is_child_of above q) (finite.contains_key m q)
              ∙ ap (λ k. is_child_of k q && (not (eq_by_cmp path_cmp q path) && finite.contains_key m q)) (sym (same_is p above t))
          | false ↦ λ t is. tree.children p s is q ∙ and_without (eq_by_cmp path_cmp q path) (is_child_of p q) (finite.contains_key m q) (λ e c. unlike p above t (sym (same_parent q path p above (same_is q path e) (child_parent p q c) below)))
        ] refl
      ] is

  parents_rest : (q p : List ℕ) → finite.contains_key m q ≡ true → parent_of q ≡ Some p → (not (eq_by_cmp path_cmp p path) && finite.contains_key m p) ≡ true
  parents_rest q p k e =
      elim (eq_by_cmp path_cmp p path) as (λ b. eq_by_cmp path_cmp p path ≡ b → (not b && finite.contains_key m p) ≡ true) [
        | true ↦ λ s. absurd (no_child_there q (e ∙ ap Some (same_is p path s)) k)
        | false ↦ λ s. tree.parents q p k e
      ] refl

  pub branching-rest : IsBranching rest
  branching-rest = record {
    keyed = record { paths = λ p s is. keyed_rest p s (sym (get-rest p) ∙ is) };
    children = λ p s is q. children_rest p s (sym (get-rest p) ∙ is) q ∙ ap (λ b. is_child_of p q && b) (sym (keys-rest q));
    parents = λ q p k e. keys-rest p ∙ parents_rest q p (and_right (not (eq_by_cmp path_cmp q path)) _ (sym (keys-rest q) ∙ k)) e;
  }

module _ (m : SlotMap) (path above : List ℕ) (tree : IsBranching m) (here : finite.contains_key (nodes_of m) path ≡ true) (below : Some above ≡ parent_of path) (none : length (children_of (nodes_of m) path) ≡ 0) (child : List ℕ) (same : child ≡ path) (s : SlotMap) (is : s ≡ slot_changed m above (without_child child)) where
  own_slot : (p : Slot) × (finite.get m path ≡ Some p)
  own_slot = slot_there m path here

  above_slot : (p : Slot) × (finite.get m above ≡ Some p)
  above_slot = found_slot _ (tree.parents path above (sym (contains_key-nodes_of m path) ∙ here) (sym below))

  childless_slot : (q : List ℕ) → (is_child_of path q && finite.contains_key m q) ≡ false
  childless_slot q = ap (λ b. is_child_of path q && b) (sym (contains_key-nodes_of m q)) ∙ no_children (nodes_of m) path none q

  is_left : s ≡ finite.insert m above (without_child path above_slot.0)
  is_left = is ∙ ap (λ c. slot_changed m above (without_child c)) same ∙ sym (changed_slot m above (without_child path) above_slot.0 _ above_slot.1 refl)

  pub left_there : finite.get s path ≡ finite.get m path
  left_there = ap (λ s. finite.get s path) is_left ∙ still_there m path above own_slot.0 above_slot.0 tree own_slot.1 (sym below) above_slot.1 childless_slot ∙ sym own_slot.1

  module _ (key : List ℕ) (same_key : key ≡ path) (t : SlotMap) (gone : t ≡ finite.remove s key) where
    is_rest : t ≡ finite.remove (finite.insert m above (without_child path above_slot.0)) path
    is_rest = gone ∙ ap (finite.remove s) same_key ∙ ap (λ s. finite.remove s path) is_left

    pub branching_taken : IsBranching t
    branching_taken = subst IsBranching (sym is_rest) (branching-rest m path above own_slot.0 above_slot.0 tree own_slot.1 (sym below) above_slot.1 childless_slot)

    pub nodes_taken : nodes_of t ≡ finite.remove (nodes_of m) path
    nodes_taken = ap nodes_of is_rest ∙ nodes-rest m path above own_slot.0 above_slot.0 tree own_slot.1 (sym below) above_slot.1 childless_slot

-- ---- a single node without parent

module _ (root : List ℕ) (node : Node) (highest : parent_of root ≡ None) where
  abbrev alone : SlotMap
  alone = finite.insert finite.empty root (new_slot root node)

  get-alone : (q : List ℕ) → finite.get alone q ≡ cond (eq_by_cmp path_cmp q root) (Some (new_slot root node)) None
  get-alone q = finite.get-insert nat_list_cmp_total finite.empty root (new_slot root node) q ∙ ap (cond (eq_by_cmp path_cmp q root) (Some (new_slot root node))) (finite.get-empty path_cmp q)

  node_alone : (q : List ℕ) → option_map (λ s. s.node) (cond (eq_by_cmp path_cmp q root) (Some (new_slot root node)) None) ≡ cond (eq_by_cmp path_cmp q root) (Some node) None
  node_alone q = elim (eq_by_cmp path_cmp q root) as (λ b. option_map (λ s. s.node) (cond b (Some (new_slot root node)) None) ≡ cond b (Some node) None) [ true ↦ refl | false ↦ refl ]

  pub nodes-alone : nodes_of alone ≡ finite.insert finite.empty root node
  nodes-alone =
      finite.same_map nat_list_cmp_total path_cmp-IsAntisymmetric _ _ (λ q. get-nodes_of alone q
      ∙ ap (option_map (λ s. s.node)) (get-alone q)
      ∙ node_alone q
      ∙ ap (cond (eq_by_cmp path_cmp q root) (Some node)) (sym (finite.get-empty path_cmp q))
      ∙ sym (finite.get-insert nat_list_cmp_total finite.empty root node q))

  -- the only node is the root
  is_alone : (q : List ℕ) (s : Slot) → cond (eq_by_cmp path_cmp q root) (Some (new_slot root node)) None ≡ Some s → (q ≡ root) × (s ≡ new_slot root node)
  is_alone q s is =
      elim (eq_by_cmp path_cmp q root) as (λ b. eq_by_cmp path_cmp q root ≡ b → cond b (Some (new_slot root node)) None ≡ Some s → (q ≡ root) × (s ≡ new_slot root node)) [
        | true ↦ λ e is. (same_is q root e, ap (λ o. unwrap_or o s) (sym is))
        | false ↦ λ e is. absurd (none_not_some {A = Slot} {x = None} refl is)
      ] refl is

  alone_there : (q : List ℕ) (s : Slot) → finite.get alone q ≡ Some s → (q ≡ root) × (s ≡ new_slot root node)
  alone_there q s is = is_alone q s (sym (get-alone q) ∙ is)

  none_below : (p q : List ℕ) → (is_child_of p q && finite.contains_key alone q) ≡ false
  none_below p q =
      elim (is_child_of p q) as (λ b. is_child_of p q ≡ b → (b && finite.contains_key alone q) ≡ false) [
        | true ↦ λ c. elim (finite.contains_key alone q) as (λ b. finite.contains_key alone q ≡ b → b ≡ false) [
          | true ↦ λ k. let found = found_slot (finite.get alone q) k in absurd (none_not_some (ap parent_of (alone_there q found.0 found.1).0 ∙ highest) (child_parent p q c))
          | false ↦ λ k. refl
        ] refl
        | false ↦ λ c. refl
      ] refl

  pub branching-alone : IsBranching alone
  branching-alone = record {
    keyed = record { paths = λ p s is. let at = alone_there p s is in ap (λ s. s.path) at.1 ∙ sym at.0 };
    children = λ p s is q. ap (λ s. finite.contains_key s.children q) (alone_there p s is).1 ∙ ap is_some (finite.get-empty path_cmp q) ∙ sym (none_below p q);
    parents = λ q p k e. let found = found_slot (finite.get alone q) k in absurd (none_not_some (ap parent_of (alone_there q found.0 found.1).0 ∙ highest) e);
  }

-- ---- the paths in slots

pub kept_paths : (m : SlotMap) (set : PathKeys) → IsBranching m → ((q : List ℕ) → finite.contains_key set q ≡ true → finite.contains_key m q ≡ true) → AreKept m set
kept_paths m set tree there = record { kept = λ q k. let found = found_slot (finite.get m q) (there q k) in ap (option_map (λ s. s.path)) found.1 ∙ ap Some (tree.keyed.paths q found.0 found.1) }

pub kept_children : (m : SlotMap) (path : List ℕ) (slot : Slot) → IsBranching m → finite.get m path ≡ Some slot → AreKept m slot.children
kept_children m path slot tree there = kept_paths m slot.children tree (λ q k. and_right (is_child_of path q) _ (sym (tree.children path slot there q) ∙ k))
