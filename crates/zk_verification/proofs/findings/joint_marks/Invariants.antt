-- The marks so far.
use Rattle.std.proofs.Common.{◌≡◌, map, take}
use Rattle.zk_verification.specs.Findings.{joint_mark}
use Rattle.zk_verification.proofs.findings.joint_marks.Given as goal

abbrev pub invariant-loop-joint : goal.invariant-loop-joint
invariant-loop-joint l = l.marks.items ≡ map (joint_mark l.cause) (take l.joint-index l.joints)
