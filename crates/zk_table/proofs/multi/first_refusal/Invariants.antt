use Rattle.std.proofs.Common.{◌≡◌, drop}
use Rattle.zk_table.specs.Multis.{first_refusal}
use Rattle.zk_table.proofs.multi.first_refusal.Given as goal

abbrev pub invariant-loop-answer : goal.invariant-loop-answer
invariant-loop-answer l = first_refusal (drop l.answer-index l.answers) ≡ first_refusal l.answers
