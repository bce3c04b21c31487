use Rattle.std.proofs.Common.{◌≡◌, take, codes}
use Rattle.std.specs.FinMap as finite
use Rattle.zk_fold.proofs.Replanting.{grown_from}
use Rattle.zk_fold.proofs.node_index.NodeIndex.tree.Given as goal

-- the root and the entries so far
abbrev pub invariant-loop-entry : goal.invariant-loop-entry
invariant-loop-entry l = l.tree ≡ grown_from (finite.get l.fn.self (codes "/")) (take l.entry-index (finite.entries l.fn.self))
