use Rattle.std.proofs.Common.{◌≡◌, ◌++◌, drop}
use Rattle.zk_table.specs.Multis.{nodes_after, answers_of}
use Rattle.zk_machine.specs.Changes.{part_changes}
use Rattle.zk_machine.specs.Undoing.{nodes_before}
use Rattle.zk_machine.proofs.noted_tree.NotedTree.apply_parts.Given as goal

abbrev pub invariant-loop-part : goal.invariant-loop-part
invariant-loop-part l =
    (nodes_after l.txn l.self.tree (drop l.part-index l.parts) ≡ nodes_after l.txn l.fn.self.tree l.parts)
    × (l.answers.items ++ answers_of l.txn l.self.tree (drop l.part-index l.parts) ≡ answers_of l.txn l.fn.self.tree l.parts)
    × (l.changes.items ++ part_changes l.txn l.self.tree (drop l.part-index l.parts) ≡ part_changes l.txn l.fn.self.tree l.parts)
    × (nodes_before l.touched l.self.tree ≡ l.fn.self.tree)
