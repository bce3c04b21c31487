-- How preimages are restored into a tree: nodes are removed from the last path to the first, then
-- old nodes are put back from the first path to the last.
use Rattle.std.specs.Prelude.{ℕ, Bool, true, false, not, ◌&&◌, List, [], ◌∷◌, Option, Some, None, if◌then◌else◌}
use Rattle.std.specs.FinMap.{get, insert, remove}
use Rattle.std.specs.Ordering.{int_eq}
use Rattle.zk_path.specs.Paths.{is_slash}
use Rattle.zk_table.specs.declared.node.Node.{Node}
use Rattle.zk_table.specs.States.{NodeMap}
use Rattle.zk_machine.specs.Preimages.{Preimage}

-- whether a node must be removed before the old one is restored: an owner never changes in place
abbrev pub must_go : Option Node → Option Node → Bool
must_go before None = false
must_go None (Some now) = true
must_go (Some before) (Some now) = not (int_eq before.owner now.owner)

abbrev pub cleared_at : List ℕ → Option Node → NodeMap → NodeMap
cleared_at path before nodes = if must_go before (get nodes path) then remove nodes path else nodes

abbrev pub cleared : List Preimage → NodeMap → NodeMap
cleared [] nodes = nodes
cleared (note ∷ notes) nodes = cleared_at note.0 note.1 (cleared notes nodes)

abbrev pub filled_at : List ℕ → Option Node → NodeMap → NodeMap
filled_at path None nodes = nodes
filled_at path (Some node) nodes = insert nodes path node

abbrev pub filled : List Preimage → NodeMap → NodeMap
filled [] nodes = nodes
filled (note ∷ notes) nodes = filled notes (filled_at note.0 note.1 nodes)

abbrev pub begins_with_slash : List ℕ → Bool
begins_with_slash [] = false
begins_with_slash (b ∷ bs) = is_slash b

abbrev pub all_begin : List Preimage → Bool
all_begin [] = true
all_begin (note ∷ notes) = begins_with_slash note.0 && all_begin notes
