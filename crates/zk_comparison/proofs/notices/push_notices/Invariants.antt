-- The notices so far.
use Rattle.std.specs.String.{string_bytes}
use Rattle.zk_comparison.proofs.Written.{AreAppended}
use Rattle.zk_comparison.specs.Notices.{IsNotice}
use Rattle.zk_comparison.proofs.notices.push_notices.Given as goal

abbrev pub invariant-loop-mark : goal.invariant-loop-mark
invariant-loop-mark l = AreAppended (IsNotice l.fn.directory) l.fn.marks l.mark-index (string_bytes l.fn.text) (string_bytes l.text)
