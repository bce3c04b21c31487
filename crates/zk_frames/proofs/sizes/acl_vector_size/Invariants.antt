use Rattle.std.proofs.Common.{◌≡◌, ◌+◌, length, take}
use Rattle.std.specs.List.{flat_map}
use Rattle.zk_records.specs.Records.{acl_entry}
use Rattle.zk_records.specs.Sizes.{capped}
use Rattle.zk_frames.proofs.sizes.acl_vector_size.Given as goal

abbrev pub invariant-loop-acl : goal.invariant-loop-acl
invariant-loop-acl l = l.size ≡ capped (4 + length (flat_map acl_entry (take l.acl-index l.acl-items)))
