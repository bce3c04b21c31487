-- No mark so far says that the logs hold two histories.
use Rattle.std.proofs.Common.{◌≡◌, length}
use Rattle.zk_comparison.specs.Reports.{second_history}
use Rattle.zk_comparison.proofs.comparison.second_history.Given as goal

abbrev pub invariant-loop-rest : goal.invariant-loop-rest
invariant-loop-rest l = second_history l.rest ≡ second_history l.fn.marks

abbrev pub decreases-loop-rest : goal.decreases-loop-rest
decreases-loop-rest l = length l.rest
