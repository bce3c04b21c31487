use Rattle.std.proofs.Common.{◌≡◌, ◌++◌, length, take, pos}
use Rattle.std.specs.List.{flat_map}
use Rattle.zk_records.specs.Records.{int}
use Rattle.zk_snapshot.specs.Snapshots.{access}
use Rattle.zk_snapshot_writer.proofs.fields.put_accesses.Given as goal

abbrev pub invariant-loop-one : goal.invariant-loop-one
invariant-loop-one l = l.out.items ≡ l.fn.out.items ++ (int (pos (length l.accesses)) ++ flat_map access (take l.one-index l.accesses))
