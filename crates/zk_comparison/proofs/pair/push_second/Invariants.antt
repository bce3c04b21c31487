-- The entries so far.
use Rattle.std.proofs.Common.{◌≡◌, ◌++◌, map, drop}
use Rattle.zk_comparison.specs.Pairs.{both_of, second_alone}
use Rattle.zk_directory.specs.Chains.{told}
use Rattle.zk_comparison.proofs.pair.push_second.Given as goal

abbrev pub invariant-loop-entry : goal.invariant-loop-entry
invariant-loop-entry l = map both_of l.pairs.items ++ map second_alone (map told (drop l.entry-index l.fn.second)) ≡ map both_of l.fn.pairs.items ++ map second_alone (map told l.fn.second)
