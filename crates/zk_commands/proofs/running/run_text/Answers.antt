use Rattle.std.proofs.Common.{◌≡◌, ℕ, List, [], Result, Ok, Err, refl, subst, rules}
use Rattle.std.specs.String.{string_bytes}
use Rattle.zk_log_commands.specs.Answering.{OutputsAndTells}
use Rattle.zk_listing.specs.Lines.{line_of_script_fault}
use Rattle.zk_log_commands.specs.Telling.{Outputs}
use Rattle.zk_run_script.specs.Scripts.{RunsScript}
use Rattle.zk_listing.specs.declared.script_fault.ScriptFault.{ScriptFault}
use Rattle.zk_listing.specs.declared.script_fault.ScriptFault.TheVariants as faults
use Rattle.zk_commands.proofs.running.run_text.Goals as goal

pub returns-in-Ok : goal.returns-in-Ok
returns-in-Ok g c = record {
  ran = Ok tt;
  answers = string_bytes c.run_script.new.answers;
  runs = subst (λ (before : List ℕ). RunsScript c.args.script.now before (Ok tt) (string_bytes c.run_script.new.answers)) c.new-answers.ensures.bytes c.in-Ok.ensures;
  outputs = (
    subst (λ (text : List ℕ). Outputs g.O.Write.contents g.E.Write.contents text c.args.output.now c.put_answers.new.output c.args.faults.now c.put_answers.new.faults (Ok c.put_answers.result)) c.as_str.ensures.value c.put_answers.ensures,
    refl,
  );
}

pub returns-in-Err-Malformed : goal.returns-in-Err-Malformed
returns-in-Err-Malformed g c =
    let after = string_bytes c.run_script.new.answers in
    let line = c.in-Err-Malformed.line in
    let runs : RunsScript c.args.script.now (string_bytes c.new-answers.result) (Err (faults.Malformed line)) after =
    subst (λ (fault : ScriptFault). RunsScript c.args.script.now (string_bytes c.new-answers.result) (Err fault) after) c.in-Err-Malformed.field-0-is c.in-Err-Malformed.ensures in
    record {
      ran = Err (faults.Malformed line);
      answers = after;
      runs = subst (λ (before : List ℕ). RunsScript c.args.script.now before (Err (faults.Malformed line)) after) c.new-answers.ensures.bytes runs;
      outputs = subst (λ (text : List ℕ). OutputsAndTells g.O.Write.contents g.E.Write.contents text (line_of_script_fault line) c.args.output.now c.put_answers_before.new.output c.args.faults.now c.put_answers_before.new.faults c.put_answers_before.result) c.as_str-in-Err-Malformed.ensures.value c.put_answers_before.ensures;
    }

pub returns : goal.returns
returns g c =
    let after = string_bytes c.run_script.new.answers in
    let runs : RunsScript c.args.script.now (string_bytes c.new-answers.result) (Err faults.NoMemory) after =
    subst (λ (fault : ScriptFault). RunsScript c.args.script.now (string_bytes c.new-answers.result) (Err fault) after) c.in-Err-NoMemory.field-0-is c.in-Err-NoMemory.ensures in
    record {
      ran = Err faults.NoMemory;
      answers = after;
      runs = subst (λ (before : List ℕ). RunsScript c.args.script.now before (Err faults.NoMemory) after) c.new-answers.ensures.bytes runs;
      outputs = search rules;
    }
