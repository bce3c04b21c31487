-- The marks so far that say that something is wrong.
use Rattle.std.proofs.Common.{◌≡◌, ◌≤◌, take}
use Rattle.std.specs.List.{count_by}
use Rattle.zk_verification.specs.Marks.{is_wrong}
use Rattle.zk_verification.proofs.report.count_wrong.Given as goal

abbrev pub invariant-loop-mark : goal.invariant-loop-mark
invariant-loop-mark l = (l.wrong ≡ count_by is_wrong (take l.mark-index l.marks)) × (l.wrong ≤ l.mark-index)
