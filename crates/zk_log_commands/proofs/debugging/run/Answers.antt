use Rattle.std.proofs.Common.{ℕ, List, Ok, Err, subst}
use Rattle.std.specs.String.{string_bytes}
use Rattle.zk_log_commands.specs.Answering.{OutputsAnswers}
use Rattle.zk_log_commands.specs.Debugs.{RunsFromStart, state_of_base}
use Rattle.zk_log_commands.specs.Notices.{within_epoch}
use Rattle.zk_log_commands.specs.Telling.{OutputsNoted}
use Rattle.zk_log_commands.proofs.debugging.run.Goals as goal

pub returns-in-Ok : goal.returns-in-Ok
returns-in-Ok g c = record {
  ran = Ok tt;
  answers = string_bytes c.push_answers.new.answers;
  runs = subst (λ (before : List ℕ). RunsFromStart (state_of_base c.args.base) c.args.txns c.args.script.now before (Ok tt) (string_bytes c.push_answers.new.answers)) c.new-answers.ensures.bytes c.in-Ok.ensures;
  outputs = (
    subst (λ (text : List ℕ). OutputsNoted g.O.Write.contents g.E.Write.contents text (within_epoch c.args.first) c.args.output.now c.put_noted.new.output c.args.faults.now c.put_noted.new.faults c.put_noted.result) c.as_str.ensures.value c.put_noted.ensures.noted,
    c.put_noted.ensures.sparing,
  );
}

pub returns : goal.returns
returns g c =
    let after = string_bytes c.push_answers.new.answers in
    let fault = c.in-Err.fault in
    record {
      ran = Err fault;
      answers = after;
      runs = subst (λ (before : List ℕ). RunsFromStart (state_of_base c.args.base) c.args.txns c.args.script.now before (Err fault) after) c.new-answers.ensures.bytes c.in-Err.ensures;
      outputs = subst (λ (text : List ℕ). OutputsAnswers g.O.Write.contents g.E.Write.contents (Err fault) text c.args.output.now c.put_stopped.new.output c.args.faults.now c.put_stopped.new.faults c.put_stopped.result) c.as_str-in-Err.ensures.value c.put_stopped.ensures;
    }
