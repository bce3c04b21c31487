-- The results so far follow the text before.
use Rattle.std.proofs.Common.{◌≡◌, ◌++◌, take}
use Rattle.std.specs.List.{flat_map}
use Rattle.std.specs.String.{string_bytes}
use Rattle.zk_format.specs.Reports.{part_answer}
use Rattle.zk_format.proofs.report.spell_part_answers.Given as goal

abbrev pub invariant-loop-part : goal.invariant-loop-part
invariant-loop-part l = string_bytes l.line ≡ string_bytes l.fn.line ++ flat_map part_answer (take l.part-index l.parts)
