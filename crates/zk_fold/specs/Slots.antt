-- Nodes with their numbers of children.
use Rattle.std.specs.Prelude.{◌≡◌, ℕ, ℤ, pos, ◌+◌, ◌-◌, List, Bool, true, false, Option, Some, None, length, map, option_map, if◌then◌else◌}
use Rattle.std.specs.FinMap as finite
use Rattle.std.specs.Ordering.{int_eq}
use Rattle.zk_path.specs.Paths.{parent_of}
use Rattle.zk_table.specs.declared.node.Node.{Node}
use Rattle.zk_table.specs.Nodes as nodes
use Rattle.zk_table.specs.States.{NodeMap, path_cmp, children_of}
use Rattle.zk_tree.specs.Views.{PathKeys}
use Rattle.zk_fold.specs.declared.node_table.Slot.{Slot}

abbrev pub SlotMap : Type 0
SlotMap = finite.FinMap path_cmp Slot

-- a node without children
abbrev pub new_place : List ℕ → Node → Slot
new_place path node = record { path = path; node = node; children = 0 }

abbrev pub with_child : ℤ → ℤ → Slot → Slot
with_child zxid count place = record place { node = nodes.with_child zxid count place.node; children = place.children + 1 }

abbrev pub without_child : ℤ → Slot → Slot
without_child zxid place = record place { node = nodes.without_child zxid place.node; children = place.children - 1 }

abbrev pub with_node : (Node → Node) → Slot → Slot
with_node change place = record place { node = change place.node }

abbrev pub place_changed_found : SlotMap → List ℕ → (Slot → Slot) → Option Slot → SlotMap
place_changed_found places path change None = places
place_changed_found places path change (Some place) = finite.insert places path (change place)

-- changes the slot at a path, if there is one
abbrev pub place_changed : SlotMap → List ℕ → (Slot → Slot) → SlotMap
place_changed places path change = place_changed_found places path change (finite.get places path)

-- whether a node can have children: it exists and has no owner
abbrev pub is_fit : Option Slot → Bool
is_fit None = false
is_fit (Some place) = int_eq place.node.owner (pos 0)

abbrev pub made_below : SlotMap → List ℕ → Node → ℤ → ℤ → Option (List ℕ) → SlotMap
made_below places path node zxid count None = places
made_below places path node zxid count (Some parent) =
    if finite.contains_key places path then places else (if is_fit (finite.get places parent) then place_changed (finite.insert places path (new_place path node)) parent (with_child zxid count) else places)

-- creates a node at a free path, below a parent that can have children
abbrev pub made : SlotMap → List ℕ → Node → ℤ → ℤ → SlotMap
made places path node zxid count = made_below places path node zxid count (parent_of path)

-- the nodes without their numbers of children
abbrev pub nodes_at : SlotMap → NodeMap
nodes_at places = finite.from_entries (map (λ e. (e.0, e.1.node)) (finite.entries places))

-- the path in a slot
abbrev pub path_at : SlotMap → List ℕ → Option (List ℕ)
path_at places path = option_map (λ place. place.path) (finite.get places path)

-- each path of the set has a slot, which contains it
pub record AreKept (places : SlotMap) (set : PathKeys) : Type 0 where
  pub kept : (path : List ℕ) → finite.contains_key set path ≡ true → path_at places path ≡ Some path

-- each slot contains its own path and the number of the node's children
pub record IsCounted (places : SlotMap) : Type 0 where
  pub keyed : (path : List ℕ) (place : Slot) → finite.get places path ≡ Some place → place.path ≡ path
  pub counts : (path : List ℕ) (place : Slot) → finite.get places path ≡ Some place → place.children ≡ length (children_of (nodes_at places) path)
