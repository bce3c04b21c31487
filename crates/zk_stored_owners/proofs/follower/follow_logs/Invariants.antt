-- What the logs that are left lead to, all logs lead to.
use Rattle.std.proofs.Common.{ℤ, drop}
use Rattle.std.specs.FinMap as finite
use Rattle.zk_mend.specs.Digests.{Owners}
use Rattle.zk_stored_owners.specs.StoredOwners.{FollowsLogs}
use Rattle.zk_stored_owners.proofs.follower.follow_logs.Given as goal

abbrev pub invariant-loop-bytes : goal.invariant-loop-bytes
invariant-loop-bytes l = (last : ℤ) (owners : Owners) → FollowsLogs l.fn.upto l.follower.last last (finite.get l.follower.owners) owners (drop l.bytes-index l.fn.logs) → FollowsLogs l.fn.upto l.fn.from last (finite.get l.fn.owners) owners l.fn.logs
