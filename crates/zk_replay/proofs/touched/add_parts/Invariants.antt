use Rattle.std.proofs.Common.{◌≡◌, drop}
use Rattle.zk_replay.specs.Touching.{with_parts}
use Rattle.zk_replay.proofs.touched.add_parts.Given as goal

abbrev pub invariant-loop-part : goal.invariant-loop-part
invariant-loop-part l = with_parts l.paths (drop l.part-index l.fn.parts) ≡ with_parts l.fn.paths l.fn.parts
