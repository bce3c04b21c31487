-- The lines so far.
use Rattle.std.specs.String.{string_bytes}
use Rattle.zk_verification.proofs.Written.{AreMarked}
use Rattle.zk_verification.proofs.report.push_marks.Given as goal

abbrev pub invariant-loop-mark : goal.invariant-loop-mark
invariant-loop-mark l = AreMarked l.fn.marks l.mark-index (string_bytes l.fn.text) (string_bytes l.text)
