-- The effect of a create on the nodes.
use Rattle.std.specs.Prelude.{◌≡◌, ◌≢◌, ◌&&◌, ℕ, ℤ, pos, negsuc, List, Bool, false, not, Option, Some, None}
use Rattle.std.specs.FinMap as finite
use Rattle.std.specs.FinMap.{get, contains_key}
use Rattle.std.specs.Ordering.{int_eq}
use Rattle.zk_path.specs.Paths.{parent_of}
use Rattle.zk_table.specs.declared.node.Node.{Node}
use Rattle.zk_table.specs.Nodes.{with_child}
use Rattle.zk_table.specs.Operations.{create_fault}
use Rattle.zk_table.specs.States.{NodeMap, parent_changed}

abbrev pub put_unless : Option ℤ → NodeMap → List ℕ → Node → ℤ → ℤ → NodeMap
put_unless None nodes path node zxid count = parent_changed (finite.insert nodes path node) path (with_child zxid count)
put_unless (Some fault) nodes path node zxid count = nodes

-- puts a node below its parent and counts it there; if it cannot be created, nothing is changed
abbrev pub put_below : NodeMap → List ℕ → Node → ℤ → ℤ → NodeMap
put_below nodes path node zxid count = put_unless (create_fault nodes path) nodes path node zxid count

-- a path that is free, below a node that has no owner and can count one more
pub record CanInsert (nodes : NodeMap) (path : List ℕ) : Type 0 where
  pub above : List ℕ
  pub parent : Node
  pub below : parent_of path ≡ Some above
  pub there : get nodes above ≡ Some parent
  pub free : contains_key nodes path ≡ false
  pub persistent : parent.owner ≡ pos 0
  pub counted : parent.creates ≢ negsuc 0

-- whether a node exists, has no owner and can count one more
abbrev pub takes_children : Option Node → Bool
takes_children None = false
takes_children (Some parent) = int_eq parent.owner (pos 0) && not (int_eq parent.creates (negsuc 0))

abbrev pub can_insert_below : NodeMap → Option (List ℕ) → Bool
can_insert_below nodes None = false
can_insert_below nodes (Some above) = takes_children (get nodes above)

-- whether a node can be inserted at a path: the test of `CanInsert`
abbrev pub can_insert : NodeMap → List ℕ → Bool
can_insert nodes path = not (contains_key nodes path) && can_insert_below nodes (parent_of path)
