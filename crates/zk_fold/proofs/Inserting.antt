-- A node that stood there all along: its parent is counted anew and keeps its numbers.
use Rattle.std.proofs.Common.{◌≡◌, ◌≢◌, ◌&&◌, ℕ, ℤ, pos, negsuc, Bool, true, false, not, cond, nat_eq, List, Option, Some, None, is_some, unwrap_or, w32, to_z, of_z, refl, sym, ap, ◌∙◌}
use Rattle.std.proofs.lemmas.Bool.{false≢true, false_from_ne_true, eqb-true, eqb-false}
use Rattle.std.proofs.lemmas.Bool.Decides.{Decides-int_eq}
use Rattle.std.proofs.lemmas.Cmp.{nat_list_cmp_total}
use Rattle.std.specs.FinMap as finite
use Rattle.std.specs.Option.{option_map}
use Rattle.std.specs.Ordering.{eq_by_cmp, int_eq}
use Rattle.std.specs.Prelude.{option_and_then}
use Rattle.zk_path.specs.Paths.{parent_of}
use Rattle.zk_table.specs.Codes.{node_exists, no_children_for_ephemerals}
use Rattle.zk_table.specs.declared.node.Node.{Node}
use Rattle.zk_table.specs.Nodes.{with_child}
use Rattle.zk_table.specs.Operations.{create_fault, parent_fault}
use Rattle.zk_table.specs.States.{NodeMap, path_cmp, changed_above, changed_found}
use Rattle.zk_tree.proofs.Kept.{path_cmp-IsAntisymmetric, insert_same}
use Rattle.zk_tree.proofs.Lists.{same_is}
use Rattle.zk_fold.specs.declared.node_table.Slot.{Slot}
use Rattle.zk_fold.specs.NodeIndexes.{put_below, put_unless, CanInsert, takes_children, can_insert_below, can_insert}
use Rattle.zk_fold.specs.Slots.{SlotMap, nodes_at}
use Rattle.zk_fold.proofs.Counting.{get-nodes_at, contains-nodes_at}

same_count : (b : Bool) (node : Node) → int_eq node.creates (negsuc 0) ≡ b → b ≡ false → with_child node.pzxid node.creates node ≡ node
same_count true node e f = absurd (false≢true (sym f))
same_count false node e f = rw e refl

module _ (n : NodeMap) (path : List ℕ) (node : Node) (may : CanInsert n path) where
  fits : create_fault n path ≡ None
  fits =
      ap (λ b. cond b (Some node_exists) (parent_fault (option_and_then (finite.get n) (parent_of path)))) may.free
      ∙ ap (λ p. parent_fault (option_and_then (finite.get n) p)) may.below
      ∙ ap parent_fault may.there
      ∙ ap (λ b. cond b None (Some no_children_for_ephemerals)) ((Decides-int_eq may.parent.owner (pos 0)).1 may.persistent)

  -- the parent is another node
  other : eq_by_cmp path_cmp may.above path ≡ false
  other = false_from_ne_true (eq_by_cmp path_cmp may.above path) (λ e. false≢true (sym may.free ∙ ap (finite.contains_key n) (sym (same_is may.above path e)) ∙ ap is_some may.there))

  still : finite.get (finite.insert n path node) may.above ≡ Some may.parent
  still = finite.get-insert nat_list_cmp_total n path node may.above ∙ ap (λ b. cond b (Some node) (finite.get n may.above)) other ∙ may.there

  told_nothing : with_child may.parent.pzxid may.parent.creates may.parent ≡ may.parent
  told_nothing = same_count (int_eq may.parent.creates (negsuc 0)) may.parent refl (false_from_ne_true (int_eq may.parent.creates (negsuc 0)) (λ e. may.counted ((Decides-int_eq may.parent.creates (negsuc 0)).0 e)))

  pub stood : put_below n path node may.parent.pzxid may.parent.creates ≡ finite.insert n path node
  stood =
      ap (λ f. put_unless f n path node may.parent.pzxid may.parent.creates) fits
      ∙ ap (λ p. changed_above (finite.insert n path node) p (with_child may.parent.pzxid may.parent.creates)) may.below
      ∙ ap (changed_found (finite.insert n path node) may.above (with_child may.parent.pzxid may.parent.creates)) still
      ∙ ap (finite.insert (finite.insert n path node) may.above) told_nothing
      ∙ insert_same nat_list_cmp_total path_cmp-IsAntisymmetric (finite.insert n path node) may.above may.parent still

-- ---- the same, of what the code looks up

abbrev node_at : Option Slot → Option Node
node_at place = option_map (λ p. p.node) place

got : (m : SlotMap) (n : NodeMap) (path above : List ℕ) (may : CanInsert n path) → nodes_at m ≡ n → Some above ≡ parent_of path → node_at (finite.get m above) ≡ Some may.parent
got m n path above may view below =
    let same : above ≡ may.above = ap (λ o. unwrap_or o above) (below ∙ may.below) in
    sym (get-nodes_at m above) ∙ ap (λ k. finite.get k above) view ∙ ap (finite.get n) same ∙ may.there

pub somewhere : (m : SlotMap) (n : NodeMap) (path above : List ℕ) (may : CanInsert n path) → nodes_at m ≡ n → Some above ≡ parent_of path → finite.get m above ≡ None → ⊥
somewhere m n path above may view below none = false≢true (ap is_some (sym (ap node_at none) ∙ got m n path above may view below))

pub parent_is : (m : SlotMap) (n : NodeMap) (path above : List ℕ) (place : Slot) (may : CanInsert n path) → nodes_at m ≡ n → Some above ≡ parent_of path → Some place ≡ finite.get m above → place.node ≡ may.parent
parent_is m n path above place may view below is = ap (λ o. unwrap_or o place.node) (ap node_at is ∙ got m n path above may view below)

pub stood_by : (n : NodeMap) (path : List ℕ) (node : Node) (may : CanInsert n path) (zxid count : ℤ) → zxid ≡ may.parent.pzxid → count ≡ may.parent.creates → put_below n path node zxid count ≡ finite.insert n path node
stood_by n path node may zxid count z c =
    ap (λ k. put_below n path node k count) z ∙ ap (put_below n path node may.parent.pzxid) c ∙ stood n path node may

-- ---- what may stand, of what the code looks up

pub may : (m : SlotMap) (n : NodeMap) (path above : List ℕ) (place : Slot) → nodes_at m ≡ n → Some above ≡ parent_of path → finite.contains_key m path ≡ false → Some place ≡ finite.get m above → place.node.owner ≡ pos 0 → place.node.creates ≢ negsuc 0 → CanInsert n path
may m n path above place view below free is owner creates = record {
  above = above;
  parent = place.node;
  below = sym below;
  there = sym (ap (λ k. finite.get k above) view) ∙ get-nodes_at m above ∙ ap node_at (sym is);
  free = sym (ap (λ k. finite.contains_key k path) view) ∙ contains-nodes_at m path ∙ free;
  persistent = owner;
  counted = creates;
}

-- ---- the test, of what the code looks up

-- where a slot's node is looked up, and whether the path is taken
tested : (m : SlotMap) (n : NodeMap) (path : List ℕ) (above : Option (List ℕ)) (taken : Bool) → nodes_at m ≡ n → parent_of path ≡ above → finite.contains_key m path ≡ taken → can_insert n path ≡ (not taken && can_insert_below (nodes_at m) above)
tested m n path above taken view below is =
    ap (λ k. can_insert k path) (sym view)
    ∙ ap (λ b. not b && can_insert_below (nodes_at m) (parent_of path)) (contains-nodes_at m path ∙ is)
    ∙ ap (λ p. not taken && can_insert_below (nodes_at m) p) below

pub taken_path : (m : SlotMap) (n : NodeMap) (path : List ℕ) → nodes_at m ≡ n → finite.contains_key m path ≡ true → false ≡ can_insert n path
taken_path m n path view is = sym (tested m n path (parent_of path) true view refl is)

pub above_all : (m : SlotMap) (n : NodeMap) (path : List ℕ) → nodes_at m ≡ n → parent_of path ≡ None → finite.contains_key m path ≡ false → false ≡ can_insert n path
above_all m n path view below is = sym (tested m n path None false view below is)

pub takes : (m : SlotMap) (n : NodeMap) (path above : List ℕ) (there : Option Slot) → nodes_at m ≡ n → Some above ≡ parent_of path → finite.contains_key m path ≡ false → finite.get m above ≡ there → takes_children (node_at there) ≡ can_insert n path
takes m n path above there view below is found =
    sym (tested m n path (Some above) false view (sym below) is ∙ ap takes_children (get-nodes_at m above ∙ ap node_at found))

-- -1 is the greatest number of 32 bits
pub last_count : (z : ℤ) → to_z w32 (of_z w32 z) ≡ z → nat_eq (of_z w32 z) 4294967295 ≡ int_eq z (negsuc 0)
last_count z same = elim (nat_eq (of_z w32 z) 4294967295) as (λ b. nat_eq (of_z w32 z) 4294967295 ≡ b → b ≡ int_eq z (negsuc 0)) [
  | true ↦ λ e. sym ((Decides-int_eq z (negsuc 0)).1 (sym same ∙ ap (to_z w32) (eqb-true (of_z w32 z) 4294967295 e)))
  | false ↦ λ e. sym (false_from_ne_true (int_eq z (negsuc 0)) (λ i. eqb-false (of_z w32 z) 4294967295 e (ap (of_z w32) ((Decides-int_eq z (negsuc 0)).0 i))))
] refl
