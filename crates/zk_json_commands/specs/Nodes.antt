-- The lines of the nodes of a tree as JSON.
use Rattle.std.specs.Prelude.{ℕ, List}
use Rattle.std.specs.FinMap.{entries}
use Rattle.zk_json.specs.Nodes.{AppendsNodeLine, IsNodeLine}
use Rattle.zk_table.specs.States.{NodeMap, stat_of}
use Rattle.zk_tree.specs.declared.entry.Entry.{Entry}
use Rattle.zk_table.specs.Nodes.{stat_with}
use Rattle.zk_table.specs.declared.node.Node.{Node}
use Rattle.zk_json_commands.specs.Lines.{AreLines}

-- the line of a node of a tree
abbrev pub IsLine : NodeMap → List ℕ × Node → List ℕ → Type 0
IsLine nodes entry line = IsNodeLine entry.0 entry.1 (stat_of nodes entry.0 entry.1) line

-- the nodes sorted by path
abbrev pub AreNodeLines : NodeMap → List ℕ → Type 0
AreNodeLines nodes text = AreLines (IsLine nodes) (entries nodes) text

-- ---- calls within

abbrev pub IsEntryLine : Entry → List ℕ → Type 0
IsEntryLine entry line = IsNodeLine entry.path.now entry.node.now (stat_with entry.node.now entry.child_count) line

abbrev pub AppendsEntryLine : Entry → List ℕ → List ℕ → Type 0
AppendsEntryLine entry old new = AppendsNodeLine entry.path.now entry.node.now (stat_with entry.node.now entry.child_count) old new
