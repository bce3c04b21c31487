use Rattle.std.proofs.Common.{◌≡◌, map}
use Rattle.zk_frames.specs.AclRecords.{acl_of}
use Rattle.zk_frames.proofs.acl_records.AclRecords.into_acls.Given as goal

abbrev pub invariant-loop-entry : goal.invariant-loop-entry
invariant-loop-entry l = l.acls.items ≡ map acl_of l.yielded
