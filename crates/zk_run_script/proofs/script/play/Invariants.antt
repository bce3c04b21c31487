-- The lines so far were executed, and each turn takes one.
use Rattle.std.proofs.Common.{length}
use Rattle.std.specs.Str.{IsUtf8}
use Rattle.std.specs.String.{string_bytes}
use Rattle.zk_run_script.proofs.PlaysLaws.{SoFar}
use Rattle.zk_run_script.proofs.script.play.Given as goal

abbrev pub invariant-loop-left : goal.invariant-loop-left
invariant-loop-left l =
    IsUtf8 l.left × SoFar l.servers l.fn.ensemble l.text (string_bytes l.fn.answers) l.left l.number (string_bytes l.answers) l.ensemble

abbrev pub decreases-loop-left : goal.decreases-loop-left
decreases-loop-left l = length l.left
