use Rattle.std.proofs.Common.{take}
use Rattle.std.specs.List.{AllByRecursion}
use Rattle.zk_records.specs.Records.{IsAcl}
use Rattle.zk_snapshot_writer.proofs.lengths.are_acls.Given as goal

abbrev pub invariant-loop-acl : goal.invariant-loop-acl
invariant-loop-acl l = AllByRecursion IsAcl (take l.acl-index l.entries)
