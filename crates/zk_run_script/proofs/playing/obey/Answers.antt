use Rattle.std.proofs.Common.{◌≡◌, ℕ, List, refl, sym, subst}
use Rattle.zk_run_script.specs.Answers.{told_text}
use Rattle.zk_run_script.specs.declared.command.Command.{Command}
use Rattle.zk_run_script.specs.declared.command.Command.TheVariants as commands
use Rattle.zk_run_script.specs.Playing.{Answers, Happened}
use Rattle.zk_listing.specs.Reports.{line}
use Rattle.zk_run_script.proofs.playing.obey.Goals as goal

pub returns-in-Happens : goal.returns-in-Happens
returns-in-Happens c =
    let happened : Happened c.args.ensemble.now c.in-Happens.event c.step-told.result c.step-told.new.self = record {
      counts = c.step-told.ensures.counts;
      answers = c.step-told.ensures.answers;
      unchanged = c.step-told.ensures.unchanged;
      same = c.step-told.ensures.same;
    } in
    let answer : List ℕ = line (told_text c.step-told.result) in
    let answered : Answers c.args.ensemble.now (commands.Happens c.in-Happens.event) answer c.step-told.new.self = (c.step-told.result, happened, refl) in
    let same : c.args.command ≡ commands.Happens c.in-Happens.event = c.in-Happens.is in
    record {
      answer = answer;
      answers = subst (λ (command : Command). Answers c.args.ensemble.now command answer c.step-told.new.self) (sym same) answered;
      told = c.push_told.ensures.appended;
    }
