use Rattle.std.proofs.Common.{List, ℕ, ◌++◌, ◌∙◌, refl, subst, rules}
use Rattle.std.specs.Prelude.{codes}
use Rattle.zk_log_commands.specs.Telling.{Told}
use Rattle.zk_commands.proofs.fault_lines.tell_place.Goals as goal

pub returns-in-Ok : goal.returns-in-Ok
returns-in-Ok g c = subst (λ (line : List ℕ). Told g.E.Write.contents c.args.faults.now c.tell.new.faults line) (c.as_str.ensures.value ∙ c.in-Ok.ensures) c.tell.ensures

pub returns-in-Err : goal.returns-in-Err
returns-in-Err g c = (search rules, (codes "zk: " ++ c.args.number.now, c.args.at, refl))
