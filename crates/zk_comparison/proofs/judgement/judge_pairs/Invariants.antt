-- The zxids so far, and the remaining ones.
use Rattle.std.proofs.Common.{◌≡◌, ◌++◌, map, drop}
use Rattle.zk_comparison.specs.Comparisons.{shown, with_kind}
use Rattle.zk_comparison.specs.Pairs.{both_of}
use Rattle.zk_comparison.proofs.judgement.judge_pairs.Given as goal

abbrev pub invariant-loop-pair : goal.invariant-loop-pair
invariant-loop-pair l = map shown l.judged.items ++ map (with_kind l.limits l.losses l.others) (map both_of (drop l.pair-index l.fn.pairs)) ≡ map (with_kind l.limits l.losses l.others) (map both_of l.fn.pairs)
