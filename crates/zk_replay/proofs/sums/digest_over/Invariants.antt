-- the sum so far, and that of the remaining paths
use Rattle.std.proofs.Common.{◌≡◌, ◌+◌, ◌%◌, ◌^◌, map}
use Rattle.std.specs.FinMap as finite
use Rattle.std.specs.String.{string_bytes}
use Rattle.zk_replay.specs.Sums.{sum_over}
use Rattle.zk_replay.proofs.sums.digest_over.Given as goal

abbrev pub invariant-loop-text : goal.invariant-loop-text
invariant-loop-text l = (l.sum + sum_over (finite.get l.owners) l.table.state.nodes (map string_bytes l.text-iterator)) % 2 ^ 64 ≡ sum_over (finite.get l.owners) l.table.state.nodes (finite.keys l.paths) % 2 ^ 64
