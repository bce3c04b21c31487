-- The entries so far are below the zxid, and those below it among the remaining ones.
use Rattle.std.proofs.Common.{◌≡◌, ◌++◌, length, map}
use Rattle.zk_comparison.specs.Pairs.{below, both_of, second_alone}
use Rattle.zk_directory.specs.Chains.{told}
use Rattle.zk_comparison.proofs.pair.push_below.Given as goal

abbrev pub invariant-loop-rest : goal.invariant-loop-rest
invariant-loop-rest l = map both_of l.pairs.items ++ map second_alone (below l.zxid (map told l.rest)) ≡ map both_of l.fn.pairs.items ++ map second_alone (below l.zxid (map told l.fn.second))

abbrev pub decreases-loop-rest : goal.decreases-loop-rest
decreases-loop-rest l = length l.rest
