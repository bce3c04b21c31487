use Rattle.std.proofs.Common.{◌≡◌, ◌++◌, length, take, pos}
use Rattle.std.specs.List.{flat_map}
use Rattle.zk_records.specs.Records.{int}
use Rattle.zk_snapshot.specs.Snapshots.{lease}
use Rattle.zk_snapshot_writer.proofs.fields.put_leases.Given as goal

abbrev pub invariant-loop-one : goal.invariant-loop-one
invariant-loop-one l = l.out.items ≡ l.fn.out.items ++ (int (pos (length l.leases)) ++ flat_map lease (take l.one-index l.leases))
