use Rattle.std.proofs.Common.{◌≡◌, drop}
use Rattle.zk_table.specs.Operations.{without_all}
use Rattle.zk_machine.specs.Undoing.{nodes_before}
use Rattle.zk_machine.proofs.Owned.{AreOwned}
use Rattle.zk_machine.proofs.noted_tree.NotedTree.take_owned.Given as goal

abbrev pub invariant-loop-path : goal.invariant-loop-path
invariant-loop-path l =
    (without_all l.txn l.self.tree (drop l.path-index l.path-items) ≡ without_all l.txn l.fn.self.tree l.path-items)
    × (nodes_before l.self.touched l.self.tree ≡ nodes_before l.fn.self.touched l.fn.self.tree)
    × AreOwned l.self.tree l.txn.session (drop l.path-index l.path-items)
