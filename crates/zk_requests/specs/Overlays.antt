-- Overlays: the nodes of a tree with changes on top, which leave the tree unchanged. The later
-- parts of a multi see an overlay.
use Rattle.std.specs.Prelude.{◌≡◌, ℕ, List, [], ◌∷◌, false, length, Option, Some, None}
use Rattle.std.specs.FinMap.{FinMap, entries, get, insert, remove}
use Rattle.std.specs.Ordering.{eq_by_cmp}
use Rattle.zk_table.specs.declared.node.Node.{Node}
use Rattle.zk_table.specs.States.{NodeMap, path_cmp, children_of}
use Rattle.zk_requests.specs.declared.deltas.Delta.{Delta}

-- the changed paths
abbrev pub DeltaMap : Type 0
DeltaMap = FinMap path_cmp Delta

-- puts a node at a path, or removes it
abbrev pub placed : List ℕ → Option Node → NodeMap → NodeMap
placed path None nodes = remove nodes path
placed path (Some node) nodes = insert nodes path node

abbrev pub all_placed : List (List ℕ × Delta) → NodeMap → NodeMap
all_placed [] nodes = nodes
all_placed (e ∷ es) nodes = placed e.0 e.1.node (all_placed es nodes)

abbrev pub nodes_over : DeltaMap → NodeMap → NodeMap
nodes_over shades nodes = all_placed (entries shades) nodes

abbrev pub count_of : NodeMap → List ℕ → ℕ
count_of nodes path = length (children_of nodes path)

-- the number in the overlay for a path, or else that of the nodes below
abbrev pub counted : Option Delta → ℕ → ℕ
counted None below = below
counted (Some shade) below = shade.children

-- the overlay's numbers of children are those of its nodes
pub record IsCounted (shades : DeltaMap) (nodes : NodeMap) : Type 0 where
  pub counts : (path : List ℕ) → counted (get shades path) (count_of nodes path) ≡ count_of (nodes_over shades nodes) path

-- after a change, these are the numbers of children at two paths; those of other paths are
-- unchanged
pub record IsRecount (old new : NodeMap) (path above : List ℕ) (own others : ℕ) : Type 0 where
  pub path_count : count_of new path ≡ own
  pub above_count : count_of new above ≡ others
  pub rest : (q : List ℕ) → eq_by_cmp path_cmp q path ≡ false → eq_by_cmp path_cmp q above ≡ false → count_of new q ≡ count_of old q
