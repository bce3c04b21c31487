-- The parts so far.
use Rattle.std.proofs.Common.{◌≡◌, true, take}
use Rattle.std.specs.List.{AllByRecursion}
use Rattle.zk_request_syntax.specs.RequestLines.{SpellsPart}
use Rattle.zk_run_script.specs.Lines.{has_part_line, part_text}
use Rattle.zk_run_script.proofs.laws.parts_are_spelled.Given as goal

abbrev pub invariant-loop-part : goal.invariant-loop-part
invariant-loop-part l = AllByRecursion (λ part. has_part_line part ≡ true → SpellsPart part (part_text part)) (take l.part-index l.parts)
