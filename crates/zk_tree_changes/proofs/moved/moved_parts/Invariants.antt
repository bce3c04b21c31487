-- The paths so far, and those of the remaining parts.
use Rattle.std.proofs.Common.{◌≡◌, ◌++◌, drop, map}
use Rattle.std.specs.List.{flat_map}
use Rattle.zk_tree_changes.specs.Changes.{moved_part}
use Rattle.zk_tree_changes.proofs.moved.moved_parts.Given as goal

abbrev pub invariant-loop-part : goal.invariant-loop-part
invariant-loop-part l = map (λ path. path.now) l.paths.items ++ flat_map moved_part (drop l.part-index l.fn.parts) ≡ flat_map moved_part l.fn.parts
