-- The logs so far, followed by the others, are all.
use Rattle.std.proofs.Common.{drop}
use Rattle.zk_tree_changes.specs.Changes.{Track}
use Rattle.zk_tree_changes.specs.DifferenceReports.{FollowsLogs}
use Rattle.zk_tree_changes.proofs.logged.follow_logs.Given as goal

abbrev pub invariant-loop-bytes : goal.invariant-loop-bytes
invariant-loop-bytes l = (new : Track) → FollowsLogs (drop l.bytes-index l.logs) l.changes new → FollowsLogs l.fn.logs l.fn.changes new
