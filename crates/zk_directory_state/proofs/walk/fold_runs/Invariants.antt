-- What was folded so far.
use Rattle.zk_directory_state.specs.Walks.{walked_by}
use Rattle.zk_directory_state.proofs.Walking.{AreRunsTo}
use Rattle.zk_directory_state.proofs.walk.fold_runs.Given as goal

abbrev pub invariant-loop-run : goal.invariant-loop-run
invariant-loop-run g l = AreRunsTo g.F.RecordFold.follows l.fn.log (walked_by l.fn.walk) l.fn.fold l.fn.runs l.run-index (walked_by l.walk) l.fold
