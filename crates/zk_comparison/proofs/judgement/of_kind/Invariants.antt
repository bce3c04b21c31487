-- Those of the kind so far, and the remaining ones.
use Rattle.std.proofs.Common.{◌≡◌, ◌++◌, map, drop}
use Rattle.zk_comparison.specs.Comparisons.{of_kind, shown}
use Rattle.zk_comparison.specs.Pairs.{both_of}
use Rattle.zk_comparison.proofs.judgement.of_kind.Given as goal

abbrev pub invariant-loop-one : goal.invariant-loop-one
invariant-loop-one l = map both_of l.pairs.items ++ of_kind l.kind (map shown (drop l.one-index l.fn.judged)) ≡ of_kind l.kind (map shown l.fn.judged)
