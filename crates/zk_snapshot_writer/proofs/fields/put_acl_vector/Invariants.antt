use Rattle.std.proofs.Common.{◌≡◌, ◌++◌, length, take, pos}
use Rattle.std.specs.List.{flat_map}
use Rattle.zk_records.specs.Records.{int, acl_entry}
use Rattle.zk_snapshot_writer.proofs.fields.put_acl_vector.Given as goal

abbrev pub invariant-loop-acl : goal.invariant-loop-acl
invariant-loop-acl l = l.out.items ≡ l.fn.out.items ++ (int (pos (length l.acl-items)) ++ flat_map acl_entry (take l.acl-index l.acl-items))
