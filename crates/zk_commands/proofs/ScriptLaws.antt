-- The output of a session for the lines of a script is that of the script.
use Rattle.std.proofs.Common.{◌≡◌, ◌∙◌, ◌<◌, ◌≤◌, ℕ, List, [], ◌∷◌, ◌++◌, false, length, map, Ok, ◌⊎◌, refl, sym, ap, subst, inl, inr, append-nil, arith}
use Rattle.std.specs.List.{AllByRecursion, flat_map}
use Rattle.std.specs.String.{string_bytes}
use Rattle.zk_debug.specs.Debugging.{Debugging}
use Rattle.zk_debug.specs.Answers.{Answers}
use Rattle.zk_debug.specs.Commands.{IsCommand, Says, command_text}
use Rattle.zk_debug.specs.Scripts.{AnswersAll}
use Rattle.zk_debug.specs.declared.command.Command.{Command}
use Rattle.zk_debug.specs.declared.command.Command.TheVariants as commands
use Rattle.zk_commands.specs.Shorthand.{long_form}
use Rattle.zk_commands.specs.Shown.{in_words}
use Rattle.zk_commands.proofs.Kept.{script_line_stays}
use Rattle.zk_commands.specs.Answering.{AnswersCommand, AnswersOther, repeated}
use Rattle.zk_commands.specs.declared.session.Session.{Session}
use Rattle.zk_commands.specs.declared.session.Turn.TheVariants as turns
use Rattle.zk_listing.specs.Lines.{lines_of}
use Rattle.zk_commands.specs.Laws.{AnswersEach, IsScriptLine, SessionsAnswerScripts}
use Rattle.zk_commands.specs.Lines.{most_bytes}
use Rattle.zk_commands.specs.Talking.{AnswersHeard, Talks}

-- a line has the output of its command, in words
record AnswersAs (old : Debugging) (line answer : List ℕ) (new : Debugging) : Type 0 where
  command : Command
  output : List ℕ
  fits : IsCommand command
  spelled : line ≡ command_text command
  answers : Answers old command output new
  told : answer ≡ in_words output

-- a command's line is not empty
said_again : (last : List ℕ) (command : Command) → repeated last (command_text command) ≡ command_text command
said_again last commands.Step = refl
said_again last (commands.StepBy count) = refl
said_again last commands.Back = refl
said_again last commands.Run = refl
said_again last commands.RunBack = refl
said_again last (commands.Goto zxid) = refl
said_again last commands.Tree = refl
said_again last (commands.Node path) = refl
said_again last commands.Last = refl
said_again last (commands.Break breakpoint) = refl
said_again last (commands.Clear number) = refl
said_again last commands.Reset = refl

-- a script's line stands for itself
heard_so : (last new line : List ℕ) (command : Command) → Says line command → new ≡ repeated last line → long_form new ≡ line
heard_so last new line command says kept =
    ap long_form (kept ∙ ap (repeated last) says.spelled ∙ said_again last command) ∙ script_line_stays command says.fits ∙ sym says.spelled

line_answered : (old new : Session) (line answer : List ℕ) → IsScriptLine line → AnswersHeard old line answer turns.GoesOn new → AnswersAs old.debugger line answer new.debugger
line_answered old new line answer is (inl (short, inl t)) =
    by_command (subst (λ (l : List ℕ). AnswersCommand old l answer turns.GoesOn new ⊎ AnswersOther old l answer turns.GoesOn new)
    (heard_so (string_bytes old.last) (string_bytes new.last) line is.2.0 is.2.1 t.last) t.answers)
  where
    by_command : AnswersCommand old line answer turns.GoesOn new ⊎ AnswersOther old line answer turns.GoesOn new → AnswersAs old.debugger line answer new.debugger
    by_command (inl c) = record { command = c.command; output = c.obeys.text; fits = c.says.fits; spelled = c.says.spelled; answers = c.obeys.answers; told = c.obeys.told }
    by_command (inr o) = absurd (o.nothing is.2.0 is.2.1)
line_answered old new line answer is (inl (short, inr b)) = absurd (b.bytes is.0)
line_answered old new line answer is (inr l) = absurd (too_long (length line) is.1 l.long)
  where
    too_long : (n : ℕ) → n ≤ most_bytes → most_bytes < n → ⊥
    too_long n short long = omega arith

record AnswersLines (old : Debugging) (lines : List (List ℕ)) (text : List ℕ) (new : Debugging) : Type 0 where
  commands : List Command
  outputs : List (List ℕ)
  spelled : lines ≡ map command_text commands
  say : AllByRecursion IsCommand commands
  each : AnswersEach old commands outputs new
  answered : AnswersAll old commands (flat_map (λ output. output) outputs) new
  told : text ≡ flat_map in_words outputs

lines_answered : (old new : Session) (lines : List (List ℕ)) (text : List ℕ) → AllByRecursion IsScriptLine lines → Talks false old lines text new → AnswersLines old.debugger lines text new.debugger
lines_answered old new [] text are t =
    let same : new.debugger ≡ old.debugger = ap (λ (s : Session). s.debugger) t.1 in
    record { commands = []; outputs = []; spelled = refl; say = tt; each = (refl, same); answered = (refl, same); told = t.0 }
lines_answered old new (line ∷ lines) text are (answer, others, between, is, heard, talks) =
    let first = line_answered old between line answer are.0 heard in
    let rest = lines_answered between new lines others are.1 talks in
    record {
      commands = first.command ∷ rest.commands;
      outputs = first.output ∷ rest.outputs;
      spelled = λ i. first.spelled i ∷ rest.spelled i;
      say = (first.fits, rest.say);
      each = (between.debugger, first.output, rest.outputs, first.answers, rest.each, refl);
      answered = (between.debugger, first.output, flat_map (λ output. output) rest.outputs, first.answers, rest.answered, refl);
      told = is ∙ ap (λ (l : List ℕ). l ++ others) first.told ∙ ap (λ (l : List ℕ). in_words first.output ++ l) rest.told;
    }

pub sessions_answer_scripts : SessionsAnswerScripts
sessions_answer_scripts old new script text are talks =
    let all = lines_answered old new (lines_of script) text are talks in
    record {
      commands = all.commands;
      outputs = all.outputs;
      each = all.each;
      script_prints = record {
        commands = all.commands;
        left = [];
        lines = all.spelled ∙ sym (append-nil (map command_text all.commands));
        say = all.say;
        between = new.debugger;
        answers = flat_map (λ output. output) all.outputs;
        answered = all.answered;
        told = refl;
        ends = refl;
      };
      session_prints = all.told;
    }
