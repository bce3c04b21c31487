-- What was folded so far.
use Rattle.zk_directory_state.specs.Walks.{walked_by}
use Rattle.zk_directory_state.proofs.Walking.{AreFoldedTo}
use Rattle.zk_directory_state.proofs.walk.fold_entries.Given as goal

abbrev pub invariant-loop-entry : goal.invariant-loop-entry
invariant-loop-entry g l = AreFoldedTo g.F.RecordFold.follows l.fn.log (walked_by l.fn.walk) l.fn.fold l.fn.entries l.entry-index (walked_by l.walk) l.fold
