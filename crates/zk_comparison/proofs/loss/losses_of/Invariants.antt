-- The losses so far, and the remaining ones.
use Rattle.std.proofs.Common.{◌≡◌, ◌++◌, drop}
use Rattle.zk_comparison.specs.Comparisons.{losses_of}
use Rattle.zk_comparison.proofs.loss.losses_of.Given as goal

abbrev pub invariant-loop-mark : goal.invariant-loop-mark
invariant-loop-mark l = l.losses.items ++ losses_of (drop l.mark-index l.fn.marks) ≡ losses_of l.fn.marks
