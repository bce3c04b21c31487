-- What a move changed in a tree: the lines of nodes that were deleted, created or changed. A
-- definition of this project.
use Rattle.std.specs.Prelude.{ℕ, ◌==◌, List, [], ◌++◌, length, Option, Some, None, if◌then◌else◌, codes}
use Rattle.std.specs.FinMap as finite
use Rattle.std.specs.List.{flat_map}
use Rattle.std.specs.Str.{bytes_eq}
use Rattle.zk_listing.specs.Reports.{line, tree_node_line}
use Rattle.zk_table.specs.States.{NodeMap}
use Rattle.zk_format.specs.Reports.{node_line}
use Rattle.zk_commands.specs.Shown.{or_none}
use Rattle.zk_tree.specs.declared.entry.Entry.{Entry}
use Rattle.zk_table.specs.Nodes.{stat_with}
use Rattle.zk_table.specs.declared.node.Node.{Node}

-- the line of a node of the old tree, unless the new one has a node at its path
abbrev pub went_line : List ℕ → Option Node → List ℕ
went_line text None = codes "- " ++ line text
went_line text (Some node) = []

-- two lines of one path, if they differ
abbrev pub changed_text : List ℕ → List ℕ → List ℕ
changed_text before after = if bytes_eq before after then [] else codes "< " ++ before ++ codes "> " ++ after

-- the line of a node of the new tree, unless the old one has a node at its path
abbrev pub came_line : NodeMap → List ℕ → List ℕ → Option Node → List ℕ
came_line old path text None = codes "+ " ++ line text
came_line old path text (Some node) = changed_text (line (tree_node_line old (path, node))) (line text)

abbrev pub went_text : NodeMap → NodeMap → List ℕ × Node → List ℕ
went_text old new entry = went_line (tree_node_line old entry) (finite.get new entry.0)

abbrev pub came_text : NodeMap → NodeMap → List ℕ × Node → List ℕ
came_text old new entry = came_line old entry.0 (tree_node_line new entry) (finite.get old entry.0)

-- deleted nodes, and then created or changed ones, each sorted by path
abbrev pub changes_text : NodeMap → NodeMap → List ℕ
changes_text old new = flat_map (went_text old new) (finite.entries old) ++ flat_map (came_text old new) (finite.entries new)

abbrev pub diff_text : NodeMap → NodeMap → List ℕ
diff_text old new = or_none (changes_text old new)

-- ---- the same for an entry of a tree

abbrev pub lent_text : Entry → List ℕ
lent_text entry = node_line entry.path.now entry.node.now (stat_with entry.node.now entry.child_count)

abbrev pub went_entry : NodeMap → Entry → List ℕ
went_entry new entry = went_line (lent_text entry) (finite.get new entry.path.now)

abbrev pub came_entry : NodeMap → Entry → List ℕ
came_entry old entry = came_line old entry.path.now (lent_text entry) (finite.get old entry.path.now)
