use Rattle.std.proofs.Common.{◌-◌, length}
use Rattle.zk_debug.proofs.Runs.{RunsOn}
use Rattle.zk_debug.proofs.debugger.Debugger.run.Given as goal

abbrev pub invariant-loop-self : goal.invariant-loop-self
invariant-loop-self l = RunsOn l.fn.self l.began l.self l.stop

abbrev pub decreases-loop-self : goal.decreases-loop-self
decreases-loop-self l = length l.fn.self.txns - l.stop.place
