-- The parts so far follow the word.
use Rattle.std.proofs.Common.{◌≡◌, ◌++◌, take}
use Rattle.std.specs.Prelude.{codes}
use Rattle.std.specs.List.{flat_map}
use Rattle.std.specs.String.{string_bytes}
use Rattle.zk_run_script.specs.Lines.{separated_text}
use Rattle.zk_run_script.proofs.request.spell_multi.Given as goal

abbrev pub invariant-loop-part : goal.invariant-loop-part
invariant-loop-part l = string_bytes l.line ≡ string_bytes l.fn.line ++ (codes "multi" ++ flat_map separated_text (take l.part-index l.parts))
