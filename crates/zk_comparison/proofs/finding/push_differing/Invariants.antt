-- The differences so far, and the remaining ones.
use Rattle.std.proofs.Common.{◌≡◌, ◌++◌, map, drop}
use Rattle.zk_comparison.specs.Findings.{differing_of}
use Rattle.zk_comparison.specs.Pairs.{both_of}
use Rattle.zk_comparison.proofs.finding.push_differing.Given as goal

abbrev pub invariant-loop-pair : goal.invariant-loop-pair
invariant-loop-pair l = l.findings.items ++ map differing_of (map both_of (drop l.pair-index l.fn.pairs)) ≡ l.fn.findings.items ++ map differing_of (map both_of l.fn.pairs)
