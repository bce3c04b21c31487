-- The state of a server's tree: ZooKeeper Programmer's Guide, "The ZooKeeper Data Model" and
-- "ZooKeeper Sessions".
use Rattle.std.specs.Prelude.{ℕ, ℤ, pos, List, [], Bool, false, Option, Some, None, length, filter, map, option_map, if◌then◌else◌, codes, refl}
use Rattle.std.specs.Str.{bytes_eq}
use Rattle.std.specs.declared.cmp.Ordering.{Ordering}
use Rattle.std.specs.Ordering.{nat_cmp, int_eq}
use Rattle.std.specs.Cmp.Lexicographic.{slice_cmp}
use Rattle.std.specs.Coded.{Coded, code_by, coded×, coded_list, coded_ℕ, coded_ℤ}
use Rattle.std.specs.FinMap.{FinMap, entries, keys, get, insert, empty}
use Rattle.std.specs.FinMap as finite
use Rattle.zk_acl.specs.declared.stat.Stat.{Stat}
use Rattle.zk_path.specs.Paths.{parent_of}
use Rattle.zk_table.specs.declared.node.Node.{Node}
use Rattle.zk_table.specs.Nodes.{first_node, stat_with}

-- texts are ordered by their bytes
abbrev pub path_cmp : List ℕ → List ℕ → Ordering
path_cmp = slice_cmp nat_cmp

-- nodes by path
abbrev pub NodeMap : Type 0
NodeMap = FinMap path_cmp Node

-- Timeouts by session. The key is the session's 64 bits as an unsigned number, which its sixteen
-- hexadecimal digits show.
abbrev pub SessionMap : Type 0
SessionMap = FinMap nat_cmp ℤ

pub record State : Type 0 where
  pub nodes : NodeMap
  pub sessions : SessionMap
  -- the zxid of the last transaction
  pub last : ℤ

abbrev pub state_code : Coded Node → Coded State
state_code node = code_by (NodeMap × (SessionMap × ℤ)) (coded× (finite.code (coded_list coded_ℕ) node) (coded× (finite.code coded_ℕ coded_ℤ) coded_ℤ)) (λ s. (s.nodes, (s.sessions, s.last))) (λ p. record { nodes = p.0; sessions = p.1.0; last = p.1.1 }) (λ _. refl)

-- the state before any transaction
abbrev pub start_state : State
start_state = record {
  nodes = insert (insert (insert empty (codes "/") first_node) (codes "/zookeeper") first_node) (codes "/zookeeper/quota") first_node;
  sessions = empty;
  last = pos 0;
}

abbrev pub is_parent : Option (List ℕ) → List ℕ → Bool
is_parent None parent = false
is_parent (Some above) parent = bytes_eq above parent

abbrev pub is_child_of : List ℕ → List ℕ → Bool
is_child_of parent path = is_parent (parent_of path) parent

-- the paths of a node's children, in order
abbrev pub children_of : NodeMap → List ℕ → List (List ℕ)
children_of nodes parent = filter (is_child_of parent) (keys nodes)

-- the paths of the nodes that a session owns, in order; 0 is no owner
abbrev pub owned_by : NodeMap → ℤ → List (List ℕ)
owned_by nodes session = if int_eq session (pos 0) then [] else map (λ e. e.0) (filter (λ e. int_eq e.1.owner session) (entries nodes))

-- the stat of the node at a path
abbrev pub stat_of : NodeMap → List ℕ → Node → Stat
stat_of nodes path node = stat_with node (length (children_of nodes path))

-- the stat of the node at a path, if there is one
abbrev pub stat_at : NodeMap → List ℕ → Option Stat
stat_at nodes path = option_map (stat_of nodes path) (get nodes path)

-- ---- changes of one node

abbrev pub changed_found : NodeMap → List ℕ → (Node → Node) → Option Node → NodeMap
changed_found nodes path change None = nodes
changed_found nodes path change (Some node) = insert nodes path (change node)

-- changes the node at a path, if there is one
abbrev pub changed : NodeMap → List ℕ → (Node → Node) → NodeMap
changed nodes path change = changed_found nodes path change (get nodes path)

abbrev pub changed_above : NodeMap → Option (List ℕ) → (Node → Node) → NodeMap
changed_above nodes None change = nodes
changed_above nodes (Some parent) change = changed nodes parent change

-- changes the parent of a path
abbrev pub parent_changed : NodeMap → List ℕ → (Node → Node) → NodeMap
parent_changed nodes path change = changed_above nodes (parent_of path) change
