-- The numbers so far were appended.
use Rattle.std.proofs.Common.{◌≡◌, ◌++◌}
use Rattle.std.specs.String.{string_bytes}
use Rattle.zk_run_script.specs.Answers.{numbers_text}
use Rattle.zk_run_script.proofs.told.push_numbers.Given as goal

abbrev pub invariant-loop-more : goal.invariant-loop-more
invariant-loop-more l = string_bytes l.page ≡ string_bytes l.fn.page ++ numbers_text l.first l.more
