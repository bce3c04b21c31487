-- The remaining paths lead from those so far to all.
use Rattle.std.proofs.Common.{◌≡◌, drop}
use Rattle.zk_tree_changes.specs.Differences.{with_all}
use Rattle.zk_tree_changes.proofs.paths.Paths.add_all.Given as goal

abbrev pub invariant-loop-path : goal.invariant-loop-path
invariant-loop-path l = with_all l.self (drop l.path-index l.fn.paths) ≡ with_all l.fn.self l.fn.paths
