use Rattle.std.proofs.Common.{◌≡◌, drop}
use Rattle.zk_table.specs.Operations.{without_all}
use Rattle.zk_table.proofs.nodes.Nodes.take_all_away.Given as goal

abbrev pub invariant-loop-gone : goal.invariant-loop-gone
invariant-loop-gone l = without_all l.txn l.self (drop l.gone-index l.paths) ≡ without_all l.txn l.initial.self l.paths
