use Rattle.std.proofs.Common.{length}
use Rattle.zk_snapshot_command.proofs.Parting.{LeavesBytes}
use Rattle.zk_snapshot_command.proofs.parts.put_parts.Given as goal

abbrev pub invariant-loop-writer : goal.invariant-loop-writer
invariant-loop-writer g l = LeavesBytes g.O.Write.contents l.fn.output l.output l.fn.writer l.writer

abbrev pub decreases-loop-writer : goal.decreases-loop-writer
decreases-loop-writer g l = length l.writer
