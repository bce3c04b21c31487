-- The last entry so far.
use Rattle.std.proofs.Common.{◌≡◌, None, map, drop}
use Rattle.zk_comparison.specs.Comparisons.{last_from}
use Rattle.zk_directory.specs.Chains.{told}
use Rattle.zk_comparison.proofs.judgement.last_of.Given as goal

abbrev pub invariant-loop-entry : goal.invariant-loop-entry
invariant-loop-entry l = last_from l.last (map told (drop l.entry-index l.fn.entries)) ≡ last_from None (map told l.fn.entries)
