-- The places so far.
use Rattle.std.proofs.Common.{◌≡◌, filter, take}
use Rattle.zk_verification.specs.Findings.{is_open}
use Rattle.zk_verification.proofs.findings.open_among.Given as goal

abbrev pub invariant-loop-joint : goal.invariant-loop-joint
invariant-loop-joint l = l.kept.items ≡ filter (is_open l.states) (take l.joint-index l.joints)
