-- The entries of the first directory so far, and those of the second below the last of them.
use Rattle.std.proofs.Common.{◌≡◌, ◌++◌, map, drop}
use Rattle.zk_comparison.specs.Pairs.{both_of, paired}
use Rattle.zk_directory.specs.Chains.{told}
use Rattle.zk_comparison.proofs.pair.pair_entries.Given as goal

abbrev pub invariant-loop-entry : goal.invariant-loop-entry
invariant-loop-entry l = map both_of l.pairs.items ++ paired (map told (drop l.entry-index l.fn.first)) (map told l.rest) ≡ paired (map told l.fn.first) (map told l.fn.second)
