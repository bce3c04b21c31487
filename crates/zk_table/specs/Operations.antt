-- The effect of each operation on the nodes, and its result: `zookeeper.jute`, module
-- `org.apache.zookeeper.txn`, as the 3.4 server applies its log. A rejected operation changes
-- nothing.
use Rattle.std.specs.Prelude.{ℕ, ℤ, pos, List, [], ◌∷◌, Bool, Option, Some, None, is_none, length, nat_lt, option_and_then, if◌then◌else◌}
use Rattle.std.specs.Ordering.{int_eq}
use Rattle.std.specs.FinMap.{get, insert, remove, contains_key}
use Rattle.zk_acl.specs.declared.acl.Acl.{Acl}
use Rattle.zk_acl.specs.declared.stat.Stat.{Stat}
use Rattle.zk_path.specs.Paths.{parent_of}
use Rattle.zk_table.specs.declared.node.Node.{Node}
use Rattle.zk_table.specs.declared.result.PartResult.{PartResult}
use Rattle.zk_table.specs.declared.result.TxnResult.{TxnResult}
use Rattle.zk_table.specs.declared.txn.Txn.{Txn}
use Rattle.zk_table.specs.Codes.{bad_arguments, no_node, no_children_for_ephemerals, node_exists, not_empty}
use Rattle.zk_table.specs.Nodes.{created, with_child, without_child, written, guarded}
use Rattle.zk_table.specs.States.{NodeMap, SessionMap, State, children_of, stat_at, changed, parent_changed}

-- ---- one operation on the nodes, alone or as a part of a multi

-- the nodes afterwards, and the result
pub record Done : Type 0 where
  pub nodes : NodeMap
  pub answer : PartResult

-- with an error code, the old nodes; without one, the new nodes and the stat
abbrev pub done_unless : Option ℤ → NodeMap → List ℕ → NodeMap → Option Stat → Done
done_unless None old path new stat = record { nodes = new; answer = record { err = pos 0; path = Some path; stat = stat } }
done_unless (Some code) old path new stat = record { nodes = old; answer = record { err = code; path = Some path; stat = None } }

-- why no child can be created below this node
abbrev pub parent_fault : Option Node → Option ℤ
parent_fault None = Some no_node
parent_fault (Some parent) = if int_eq parent.owner (pos 0) then None else Some no_children_for_ephemerals

abbrev pub create_fault : NodeMap → List ℕ → Option ℤ
create_fault nodes path = if contains_key nodes path then Some node_exists else parent_fault (option_and_then (get nodes) (parent_of path))

abbrev pub create : NodeMap → Txn → List ℕ → Option (List ℕ) → List Acl → Bool → ℤ → Done
create nodes txn path content acl ephemeral count =
    done_unless (create_fault nodes path) nodes path
    (parent_changed (insert nodes path (created txn content acl ephemeral)) path (with_child txn.zxid count)) None

-- deletes a node and updates its parent
abbrev pub without : Txn → NodeMap → List ℕ → NodeMap
without txn nodes path = parent_changed (remove nodes path) path (without_child txn.zxid)

abbrev pub delete_fault : NodeMap → List ℕ → Option ℤ
delete_fault nodes path =
    if is_none (parent_of path) then Some bad_arguments else (if contains_key nodes path then (if nat_lt 0 (length (children_of nodes path)) then Some not_empty else None) else Some no_node)

abbrev pub delete : NodeMap → Txn → List ℕ → Done
delete nodes txn path =
    done_unless (delete_fault nodes path) nodes path (without txn nodes path) None

abbrev pub missing_fault : NodeMap → List ℕ → Option ℤ
missing_fault nodes path = if contains_key nodes path then None else Some no_node

abbrev pub set_data : NodeMap → Txn → List ℕ → Option (List ℕ) → ℤ → Done
set_data nodes txn path content version =
    let new = changed nodes path (written txn content version) in
    done_unless (missing_fault nodes path) nodes path new (stat_at new path)

abbrev pub set_acl : NodeMap → List ℕ → List Acl → ℤ → Done
set_acl nodes path acl version =
    let new = changed nodes path (guarded acl version) in done_unless (missing_fault nodes path) nodes path new (stat_at new path)

-- deletes the nodes at these paths in order
abbrev pub without_all : Txn → NodeMap → List (List ℕ) → NodeMap
without_all txn nodes [] = nodes
without_all txn nodes (path ∷ paths) = without_all txn (without txn nodes path) paths

-- ---- the result of a transaction

-- the state with these nodes and sessions, and the transaction's result
abbrev pub told : Txn → NodeMap → SessionMap → PartResult → List PartResult → State × TxnResult
told txn nodes sessions answer parts =
    (record { nodes = nodes; sessions = sessions; last = txn.zxid }, record { zxid = txn.zxid; err = answer.err; path = answer.path; stat = answer.stat; parts = parts })
