-- Nodes, and the paths of their children.
use Rattle.std.specs.Prelude.{◌≡◌, ℕ, List, true, ◌&&◌, Option, Some, None, map, option_map}
use Rattle.std.specs.FinMap as finite
use Rattle.zk_path.specs.Paths.{parent_of}
use Rattle.zk_table.specs.declared.node.Node.{Node}
use Rattle.zk_table.specs.States.{NodeMap, path_cmp, is_child_of}
use Rattle.zk_tree.specs.declared.slots.Slot.{Slot}
use Rattle.zk_tree.specs.Views.{PathKeys}

abbrev pub SlotMap : Type 0
SlotMap = finite.FinMap path_cmp Slot

-- a node without children
abbrev pub new_slot : List ℕ → Node → Slot
new_slot path node = record { path = path; node = node; children = finite.empty }

abbrev pub with_child : List ℕ → Slot → Slot
with_child child slot = record slot { children = finite.insert slot.children child tt }

abbrev pub without_child : List ℕ → Slot → Slot
without_child child slot = record slot { children = finite.remove slot.children child }

abbrev pub with_node : Node → Slot → Slot
with_node node slot = record slot { node = node }

abbrev pub slot_changed_found : SlotMap → List ℕ → (Slot → Slot) → Option Slot → SlotMap
slot_changed_found slots path change None = slots
slot_changed_found slots path change (Some slot) = finite.insert slots path (change slot)

-- changes the slot at a path, if there is one
abbrev pub slot_changed : SlotMap → List ℕ → (Slot → Slot) → SlotMap
slot_changed slots path change = slot_changed_found slots path change (finite.get slots path)

-- the nodes without their children
abbrev pub nodes_of : SlotMap → NodeMap
nodes_of slots = finite.from_entries (map (λ e. (e.0, e.1.node)) (finite.entries slots))

-- the path in a slot
abbrev pub path_at : SlotMap → List ℕ → Option (List ℕ)
path_at slots path = option_map (λ slot. slot.path) (finite.get slots path)

-- each slot contains its own path
pub record IsKeyed (slots : SlotMap) : Type 0 where
  pub paths : (path : List ℕ) (slot : Slot) → finite.get slots path ≡ Some slot → slot.path ≡ path

-- each path of the set has a slot, which contains it
pub record AreKept (slots : SlotMap) (set : PathKeys) : Type 0 where
  pub kept : (path : List ℕ) → finite.contains_key set path ≡ true → path_at slots path ≡ Some path

-- each slot contains its path and the paths of its children, and each slot that has a parent is
-- among its parent's children
pub record IsBranching (slots : SlotMap) : Type 0 where
  pub keyed : IsKeyed slots
  pub children : (path : List ℕ) (slot : Slot) → finite.get slots path ≡ Some slot → (child : List ℕ) → finite.contains_key slot.children child ≡ (is_child_of path child && finite.contains_key slots child)
  pub parents : (child path : List ℕ) → finite.contains_key slots child ≡ true → parent_of child ≡ Some path → finite.contains_key slots path ≡ true
