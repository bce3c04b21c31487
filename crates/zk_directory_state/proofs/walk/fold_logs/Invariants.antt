-- The records of the logs so far were folded.
use Rattle.std.proofs.Common.{◌≡◌}
use Rattle.zk_directory_state.specs.Walks.{walked_by}
use Rattle.zk_directory_state.proofs.Walking.{AreLogsTo}
use Rattle.zk_directory_state.proofs.walk.fold_logs.Given as goal

abbrev pub invariant-loop-bytes : goal.invariant-loop-bytes
invariant-loop-bytes g l = record {
  counted : l.place ≡ l.bytes-index;
  folded : AreLogsTo g.F.RecordFold.follows l.fn.logged (walked_by l.fn.walk) l.fn.fold l.fn.logs l.bytes-index (walked_by l.walk) l.fold;
}
