use Rattle.std.proofs.Common.{◌≡◌, ◌+◌, ◌%◌, ◌^◌, drop, map}
use Rattle.zk_state_snapshot.specs.StateSnapshots.{digest_of, placed}
use Rattle.zk_state_snapshot.proofs.Tables.{sum_of}
use Rattle.zk_state_snapshot.proofs.digest.digest_of.Given as goal

abbrev pub invariant-loop-entry : goal.invariant-loop-entry
invariant-loop-entry l = (l.sum + sum_of (drop l.entry-index l.fn.entries)) % 2 ^ 64 ≡ digest_of (map placed l.fn.entries)
