use Rattle.std.proofs.Common.{◌≡◌, ◌++◌, length, take, pos}
use Rattle.std.specs.List.{flat_map}
use Rattle.zk_records.specs.Records.{int, ustring}
use Rattle.zk_frames.proofs.field_writers.put_names.Given as goal

abbrev pub invariant-loop-name : goal.invariant-loop-name
invariant-loop-name l = l.out.items ≡ l.fn.out.items ++ (int (pos (length l.name-items)) ++ flat_map ustring (take l.name-index l.name-items))
