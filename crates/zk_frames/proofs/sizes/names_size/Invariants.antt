use Rattle.std.proofs.Common.{◌≡◌, ◌+◌, length, take}
use Rattle.std.specs.List.{flat_map}
use Rattle.zk_records.specs.Records.{ustring}
use Rattle.zk_records.specs.Sizes.{capped}
use Rattle.zk_frames.proofs.sizes.names_size.Given as goal

abbrev pub invariant-loop-name : goal.invariant-loop-name
invariant-loop-name l = l.size ≡ capped (4 + length (flat_map ustring (take l.name-index l.name-items)))
