-- What a session prints besides the output of a script: a definition of this project.
use Rattle.std.specs.Prelude.{ℕ, ◌==◌, true, List, [], ◌∷◌, ◌++◌, length, if◌then◌else◌, codes}
use Rattle.std.specs.Fmt.{decimal}
use Rattle.std.specs.FinMap.{entries}
use Rattle.std.specs.List.{flat_map}
use Rattle.std.specs.Option.{unwrap_or}
use Rattle.zk_debug.specs.Breakpoints.{is_in}
use Rattle.zk_debug.specs.declared.breakpoint.Breakpoint.{Breakpoint}
use Rattle.zk_debug.specs.Commands.{breakpoint_text}
use Rattle.zk_debug.specs.Reading.{looked_up}
use Rattle.zk_listing.specs.Reports.{line, entry_line, tree_node_line}
use Rattle.zk_table.specs.States.{NodeMap}
use Rattle.zk_tree.specs.declared.entry.Entry.{Entry}
use Rattle.zk_table.specs.declared.node.Node.{Node}

abbrev pub or_none : List ℕ → List ℕ
or_none text = if length text == 0 then codes "none\n" else text

-- ---- faults

abbrev pub fault_words : List (List ℕ × List ℕ)
fault_words =
    (codes "B1\n", codes "end of the log (B1)\n") ∷ (codes "B2\n", codes "no earlier place (B2)\n") ∷ (codes "B3\n", codes "no breakpoint has this number (B3)\n") ∷ (codes "B4\n", codes "out of memory (B4)\n") ∷ (codes "B5\n", codes "an earlier command ran out of memory: reset (B5)\n") ∷ (codes "B6\n", codes "all breakpoint numbers are used (B6)\n") ∷ []

-- the output of a script's command, a fault in words
unfoldable pub in_words : List ℕ → List ℕ
in_words answer = unwrap_or (looked_up answer fault_words) answer

-- ---- a part of the tree

-- the line of a node at or below a path
abbrev pub line_in : List ℕ → NodeMap → List ℕ × Node → List ℕ
line_in path nodes entry = if is_in path true entry.0 then line (tree_node_line nodes entry) else []

abbrev pub entry_in : List ℕ → Entry → List ℕ
entry_in path entry = if is_in path true entry.path.now then entry_line entry else []

abbrev pub subtree_text : List ℕ → NodeMap → List ℕ
subtree_text path nodes = or_none (flat_map (line_in path nodes) (entries nodes))

-- ---- breakpoints

abbrev pub breakpoint_line : ℕ × Breakpoint → List ℕ
breakpoint_line e = line (decimal e.0 ++ 32 ∷ breakpoint_text e.1)

abbrev pub breakpoints_text : List (ℕ × Breakpoint) → List ℕ
breakpoints_text standing = or_none (flat_map breakpoint_line standing)
