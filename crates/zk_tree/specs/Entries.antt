-- All nodes of a tree at once: ZooKeeper Programmer's Guide, "The ZooKeeper Data Model".
use Rattle.std.specs.Prelude.{ℕ, List, length, map}
use Rattle.std.specs.FinMap as finite
use Rattle.zk_table.specs.declared.node.Node.{Node}
use Rattle.zk_table.specs.States.{NodeMap, children_of}
use Rattle.zk_tree.specs.declared.entry.Entry.{Entry}

-- what an entry borrows: a path, its node and the number of its children
abbrev pub lent : Entry → List ℕ × (Node × ℕ)
lent entry = (entry.path.now, (entry.node.now, entry.child_count))

-- each node with its path and the number of its children, sorted by path
abbrev pub entries_of : NodeMap → List (List ℕ × (Node × ℕ))
entries_of nodes = map (λ e. (e.0, (e.1, length (children_of nodes e.0)))) (finite.entries nodes)
