-- The parts so far.
use Rattle.std.proofs.Common.{◌≡◌, ◌++◌, take}
use Rattle.std.specs.List.{flat_map}
use Rattle.json.specs.Tree.{json_tokens}
use Rattle.zk_json.specs.Records.{part_of}
use Rattle.zk_json.proofs.operations.push_parts.Given as goal

abbrev pub invariant-loop-part : goal.invariant-loop-part
invariant-loop-part l = l.json.writer.tokens ≡ l.fn.json.writer.tokens ++ flat_map (λ part. json_tokens (part_of part)) (take l.part-index l.parts)
