-- The lines of reports on a tree.
use Rattle.std.specs.Prelude.{ℕ, ℤ, List, [], ◌∷◌, ◌++◌, codes}
use Rattle.std.specs.Fmt.{signed_decimal}
use Rattle.std.specs.FinMap.{entries}
use Rattle.std.specs.List.{flat_map}
use Rattle.zk_format.specs.Reports.{node_line}
use Rattle.zk_format.specs.Spelling.{sixteen_digits, id_digits}
use Rattle.zk_table.specs.declared.node.Node.{Node}
use Rattle.zk_table.specs.Nodes.{stat_with}
use Rattle.zk_table.specs.States.{NodeMap, State, stat_of}
use Rattle.zk_tree.specs.declared.entry.Entry.{Entry}

-- a line with its newline
abbrev pub line : List ℕ → List ℕ
line text = text ++ 10 ∷ []

-- the zxid of the last transaction
unfoldable pub zxid_line : ℤ → List ℕ
zxid_line zxid = codes "zxid " ++ id_digits zxid

-- an open session, by its 64 bits, and its timeout in milliseconds
unfoldable pub session_line : ℕ × ℤ → List ℕ
session_line session = codes "session " ++ sixteen_digits session.0 ++ 32 ∷ signed_decimal session.1

-- a node of a tree
abbrev pub tree_node_line : NodeMap → List ℕ × Node → List ℕ
tree_node_line nodes entry = node_line entry.0 entry.1 (stat_of nodes entry.0 entry.1)

-- the line of an entry of a tree
abbrev pub entry_line : Entry → List ℕ
entry_line entry = line (node_line entry.path.now entry.node.now (stat_with entry.node.now entry.child_count))

-- the last transaction, the open sessions in order, and the nodes sorted by path
unfoldable pub tree_report : State → List ℕ
tree_report state =
    line (zxid_line state.last)
    ++ flat_map (λ session. line (session_line session)) (entries state.sessions)
    ++ flat_map (λ entry. line (tree_node_line state.nodes entry)) (entries state.nodes)
