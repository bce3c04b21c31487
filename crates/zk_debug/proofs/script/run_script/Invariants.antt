-- The lines so far were executed, and each iteration consumes one.
use Rattle.std.proofs.Common.{length}
use Rattle.std.specs.Str.{IsUtf8}
use Rattle.std.specs.String.{string_bytes}
use Rattle.zk_debug.proofs.Scripts.{SoFar}
use Rattle.zk_debug.proofs.script.run_script.Given as goal

abbrev pub invariant-loop-left : goal.invariant-loop-left
invariant-loop-left l =
    IsUtf8 l.left × SoFar l.fn.debugger l.script (string_bytes l.fn.answers) l.left l.number (string_bytes l.answers) l.debugger

abbrev pub decreases-loop-left : goal.decreases-loop-left
decreases-loop-left l = length l.left
