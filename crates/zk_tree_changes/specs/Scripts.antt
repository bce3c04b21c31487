-- The script that restores a node and those below it.
use Rattle.std.specs.Prelude.{ℕ, ℤ, true, List, ◌++◌, [], if◌then◌else◌, codes}
use Rattle.std.specs.FinMap.{entries}
use Rattle.std.specs.List.{flat_map}
use Rattle.zk_format.specs.Spelling.{id_digits, quoted}
use Rattle.zk_incidents.specs.Within.{is_within}
use Rattle.zk_tree_changes.specs.Lines.{node_lines}
use Rattle.zk_table.specs.States.{NodeMap, State}
use Rattle.zk_tree.specs.declared.entry.Entry.{Entry}
use Rattle.zk_table.specs.declared.node.Node.{Node}

unfoldable pub title : List ℕ → List ℕ
title root = codes "# Node " ++ quoted root

unfoldable pub moment : ℤ → List ℕ
moment zxid = codes " and those below it, after transaction " ++ id_digits zxid ++ codes ".\n"

unfoldable pub use_line : List ℕ
use_line = codes "# For zkCli.sh in a UTF-8 locale: zkCli.sh -server HOST:PORT < SCRIPT. The client reports each of these comments.\n"

unfoldable pub premises_line : List ℕ
premises_line = codes "# The parent exists, and these nodes do not. Versions, times and zxids are not restored.\n"

-- what it holds, and what it assumes
abbrev pub head : List ℕ → ℤ → List ℕ
head root zxid = title root ++ moment zxid ++ use_line ++ premises_line

-- the lines of a node at or below a root
abbrev pub covered_lines : List ℕ → List ℕ × Node → List ℕ
covered_lines root entry = if is_within root true entry.0 then node_lines entry.0 entry.1 else []

-- in order of path, so that parents come first
abbrev pub body : List ℕ → NodeMap → List ℕ
body root nodes = flat_map (covered_lines root) (entries nodes)

abbrev pub script : List ℕ → State → List ℕ
script root state = head root state.last ++ body root state.nodes

-- ---- calls within

abbrev pub node_of : Entry → List ℕ × Node
node_of entry = (entry.path.now, entry.node.now)
