use Rattle.std.proofs.Common.{◌∙◌, ℕ, List, inl, inr, subst, rules}
use Rattle.zk_log_commands.specs.Telling.{Told}
use Rattle.zk_log_commands.proofs.answering.put_answers_before.Goals as goal

pub returns-in-Ok : goal.returns-in-Ok
returns-in-Ok g c =
    inl (search rules, subst (λ (line : List ℕ). Told g.E.Write.contents c.args.faults.now c.tell.new.faults line) (c.as_str.ensures.value ∙ c.in_ok-told.ensures) c.tell.ensures)

pub returns : goal.returns
returns g c = inr (search rules, search rules)
