use Rattle.std.proofs.Common.{◌≡◌, ◌++◌, length, take, pos}
use Rattle.std.specs.List.{flat_map, AllByRecursion}
use Rattle.zk_records.specs.Records.{int}
use Rattle.zk_quorum_records.specs.Packets.{identity, IsIdentity}
use Rattle.zk_quorum_records.proofs.writing.put_identities.Given as goal

abbrev pub invariant-loop-id : goal.invariant-loop-id
invariant-loop-id l = record {
  written : l.out.items ≡ l.fn.out.items ++ (int (pos (length l.id-items)) ++ flat_map identity (take l.id-index l.id-items));
  known : AllByRecursion IsIdentity (take l.id-index l.id-items);
}
