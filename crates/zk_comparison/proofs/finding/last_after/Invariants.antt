-- The last one so far.
use Rattle.std.proofs.Common.{◌≡◌, drop, map}
use Rattle.zk_comparison.specs.Findings.{last_after}
use Rattle.zk_comparison.specs.Pairs.{both_of}
use Rattle.zk_comparison.proofs.finding.last_after.Given as goal

abbrev pub invariant-loop-other : goal.invariant-loop-other
invariant-loop-other l = last_after (both_of l.last) (map both_of (drop l.other-index l.fn.rest)) ≡ last_after (both_of l.fn.pair) (map both_of l.fn.rest)
