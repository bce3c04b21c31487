-- the sum so far, and that of the remaining nodes
use Rattle.std.proofs.Common.{◌≡◌, ◌+◌, ◌%◌, ◌^◌, drop}
use Rattle.std.specs.FinMap as finite
use Rattle.zk_replay.specs.Sums.{sum_of_entries}
use Rattle.zk_replay.proofs.sums.entries_digest.Given as goal

abbrev pub invariant-loop-entry : goal.invariant-loop-entry
invariant-loop-entry l = (l.sum + sum_of_entries (finite.get l.owners) (drop l.entry-index l.entries)) % 2 ^ 64 ≡ sum_of_entries (finite.get l.owners) l.entries % 2 ^ 64
