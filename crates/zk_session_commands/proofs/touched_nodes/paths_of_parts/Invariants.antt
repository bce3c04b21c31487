-- The parts so far, and the remaining ones.
use Rattle.std.proofs.Common.{◌≡◌, ◌++◌, drop, map}
use Rattle.std.specs.List.{flat_map}
use Rattle.zk_incidents.specs.Writes.{written_part}
use Rattle.zk_session_commands.proofs.touched_nodes.paths_of_parts.Given as goal

abbrev pub invariant-loop-part : goal.invariant-loop-part
invariant-loop-part l = map (λ path. path.now) l.paths.items ++ flat_map written_part (drop l.part-index l.fn.parts) ≡ flat_map written_part l.fn.parts
