-- The states so far.
use Rattle.std.proofs.Common.{◌≡◌, None, fold, take}
use Rattle.zk_verification.specs.Findings.{doubt_after}
use Rattle.zk_verification.proofs.findings.first_doubt.Given as goal

abbrev pub invariant-loop-mark : goal.invariant-loop-mark
invariant-loop-mark l = l.doubt ≡ fold doubt_after None (take l.mark-index l.states)
