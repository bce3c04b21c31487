-- The zeros so far, and those that are left.
use Rattle.std.proofs.Common.{◌≡◌, ◌++◌, replicate}
use Rattle.std.specs.String.{string_bytes}
use Rattle.zk_cli_args.proofs.zxids.zeros.Given as goal

abbrev pub invariant-loop-left : goal.invariant-loop-left
invariant-loop-left l = string_bytes l.zeros ++ replicate l.left 48 ≡ replicate l.fn.count 48

abbrev pub decreases-loop-left : goal.decreases-loop-left
decreases-loop-left l = l.left
