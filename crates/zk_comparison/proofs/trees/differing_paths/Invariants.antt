-- The paths so far, and those that remain.
use Rattle.std.proofs.Common.{◌≡◌, ◌++◌, map, drop}
use Rattle.std.specs.List.{filter}
use Rattle.zk_comparison.specs.Trees.{differing_paths}
use Rattle.zk_tree_changes.specs.Differences.{differ_at}
use Rattle.zk_comparison.proofs.trees.differing_paths.Given as goal

abbrev pub invariant-loop-text : goal.invariant-loop-text
invariant-loop-text l = l.differing.items ++ filter (differ_at l.first l.second) (map (λ text. text.now) (drop l.text-index l.text-items)) ≡ differing_paths l.fn.first l.fn.second
