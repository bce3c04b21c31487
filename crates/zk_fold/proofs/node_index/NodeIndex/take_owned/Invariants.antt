use Rattle.std.proofs.Common.{◌≡◌, drop}
use Rattle.zk_table.specs.Operations.{without_all}
use Rattle.zk_machine.proofs.Owned.{AreOwned}
use Rattle.zk_fold.proofs.node_index.NodeIndex.take_owned.Given as goal

-- the nodes that remain to be deleted
abbrev pub invariant-loop-path : goal.invariant-loop-path
invariant-loop-path l =
    (without_all l.txn l.self (drop l.path-index l.path-items) ≡ without_all l.txn l.fn.self l.path-items)
    × AreOwned l.self l.txn.session (drop l.path-index l.path-items)
