-- The nodes so far, and the remaining ones.
use Rattle.std.proofs.Common.{◌≡◌, ◌++◌, map, drop}
use Rattle.zk_comparison.specs.Trees.{node_at}
use Rattle.zk_comparison.proofs.trees.push_nodes.Given as goal

abbrev pub invariant-loop-path : goal.invariant-loop-path
invariant-loop-path l = l.findings.items ++ map (node_at l.first l.second) (drop l.path-index l.paths) ≡ l.fn.findings.items ++ map (node_at l.fn.first l.fn.second) l.fn.paths
