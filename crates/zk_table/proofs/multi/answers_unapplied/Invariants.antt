use Rattle.std.proofs.Common.{◌≡◌, ◌++◌, drop, pos}
use Rattle.zk_table.specs.Multis.{answers_unapplied}
use Rattle.zk_table.proofs.multi.answers_unapplied.Given as goal

abbrev pub invariant-loop-part : goal.invariant-loop-part
invariant-loop-part l = l.answers.items ++ answers_unapplied l.code (drop l.part-index l.parts) ≡ answers_unapplied (pos 0) l.parts
