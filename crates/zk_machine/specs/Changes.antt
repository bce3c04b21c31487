-- The changes of a transaction, found by comparing the states before and after: ZooKeeper
-- Programmer's Guide, "ZooKeeper Watches". One instruction is a transaction or one part of a multi.
use Rattle.std.specs.Prelude.{ℕ, Bool, List, [], ◌∷◌, ◌++◌, Option, Some, None, if◌then◌else◌}
use Rattle.std.specs.List.{list_any, flat_map}
use Rattle.std.specs.Ordering.{int_eq}
use Rattle.std.specs.FinMap.{get, entries, keys, from_entries}
use Rattle.zk_table.specs.declared.node.Node.{Node}
use Rattle.zk_table.specs.declared.sub.Sub.{Sub}
use Rattle.zk_table.specs.declared.txn.Op.{Op}
use Rattle.zk_table.specs.declared.txn.Op.TheVariants.{Multi}
use Rattle.zk_table.specs.declared.txn.Txn.{Txn}
use Rattle.zk_table.specs.Parts.{is_error}
use Rattle.zk_table.specs.Multis.{apply_part}
use Rattle.zk_table.specs.States.{NodeMap, State, path_cmp}
use Rattle.zk_table.specs.Steps.{step}
use Rattle.zk_machine.specs.declared.change.Change.{Change}
use Rattle.zk_machine.specs.declared.change.ChangeKind.{ChangeKind}
use Rattle.zk_machine.specs.declared.change.ChangeKind.TheVariants.{Created, Deleted, DataChanged, ChildrenChanged}

-- ---- two states compared

abbrev pub changed_unless : Bool → List ℕ → ChangeKind → List Change
changed_unless same path kind = if same then [] else record { path = path; kind = kind } ∷ []

-- the changes at a path, from the node before and the node after; the change of the content
-- precedes that of the children
abbrev pub compared : List ℕ → Option Node → Option Node → List Change
compared path None None = []
compared path None (Some after) = record { path = path; kind = Created } ∷ []
compared path (Some before) None = record { path = path; kind = Deleted } ∷ []
compared path (Some before) (Some after) =
    changed_unless (int_eq before.mzxid after.mzxid) path DataChanged ++ changed_unless (int_eq before.pzxid after.pzxid) path ChildrenChanged

abbrev pub change_at : NodeMap → NodeMap → List ℕ → List Change
change_at before after path = compared path (get before path) (get after path)

-- the paths of both, in order
abbrev pub paths_of : NodeMap → NodeMap → List (List ℕ)
paths_of before after = keys (from_entries {R = path_cmp} (entries before ++ entries after))

abbrev pub changes_between : NodeMap → NodeMap → List Change
changes_between before after = flat_map (change_at before after) (paths_of before after)

-- ---- instruction by instruction

-- parts that are applied in order
abbrev pub part_changes : Txn → NodeMap → List Sub → List Change
part_changes txn nodes [] = []
part_changes txn nodes (part ∷ parts) =
    let next = (apply_part txn nodes part).nodes in changes_between nodes next ++ part_changes txn next parts

-- if one part is an error, no part is applied
abbrev pub multi_changes : State → Txn → List Sub → List Change
multi_changes state txn parts = if list_any is_error parts then [] else part_changes txn state.nodes parts

abbrev pub op_changes : State → Txn → Op → List Change
op_changes state txn (Multi parts) = multi_changes state txn parts
op_changes state txn op = changes_between state.nodes (step state txn).0.nodes

abbrev pub changes_of : State → Txn → List Change
changes_of state txn = op_changes state txn txn.op
