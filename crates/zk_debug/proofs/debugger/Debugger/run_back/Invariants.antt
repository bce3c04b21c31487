use Rattle.zk_debug.proofs.Runs.{RunsDown}
use Rattle.zk_debug.proofs.debugger.Debugger.run_back.Given as goal

abbrev pub invariant-loop-stop : goal.invariant-loop-stop
invariant-loop-stop l = RunsDown l.fn.self l.began l.self l.stop

abbrev pub decreases-loop-stop : goal.decreases-loop-stop
decreases-loop-stop l = l.stop.place
