use Rattle.std.proofs.Common.{◌≡◌, length, take}
use Rattle.std.specs.List.{flat_map}
use Rattle.zk_frames.specs.Replies.{result_of}
use Rattle.zk_records.specs.Sizes.{capped}
use Rattle.zk_frames.proofs.sizes.results_size.Given as goal

abbrev pub invariant-loop-part : goal.invariant-loop-part
invariant-loop-part l = l.size ≡ capped (length (flat_map result_of (take l.part-index l.part-items)))
