-- The results so far were appended.
use Rattle.std.proofs.Common.{◌≡◌, ◌++◌, take}
use Rattle.std.specs.List.{flat_map}
use Rattle.std.specs.String.{string_bytes}
use Rattle.zk_format.specs.Reports.{part_answer}
use Rattle.zk_line_protocol.proofs.answer_lines.push_part_answers.Given as goal

abbrev pub invariant-loop-part : goal.invariant-loop-part
invariant-loop-part l = string_bytes l.page ≡ string_bytes l.fn.page ++ flat_map part_answer (take l.part-index l.parts)
