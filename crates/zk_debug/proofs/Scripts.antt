-- A script whose first lines were executed.
use Rattle.std.proofs.Common.{◌≡◌, ℕ, zero, suc, ◌+◌, ◌≤◌, ◌<◌, List, [], ◌∷◌, ◌++◌, length, map, Result, Ok, Err, OnOk, OnErr, refl, sym, ap, subst, ◌∙◌, inl, inr, append_assoc, length-append, arith}
use Rattle.std.proofs.lemmas.List.{append-nil}
use Rattle.std.specs.List.{AllByRecursion}
use Rattle.zk_debug.specs.Debugging.{Debugging}
use Rattle.zk_path.specs.declared.memory.NoMemory.{NoMemory}
use Rattle.zk_debug.specs.Answers.{Answers, Obeys}
use Rattle.zk_debug.specs.Commands.{command_text, IsCommand, Says, SaysNothing}
use Rattle.zk_listing.specs.Lines.{lines_of}
use Rattle.zk_debug.specs.Scripts.{AnswersAll, EndsScript, RunsScript}
use Rattle.zk_debug.specs.declared.command.Command.{Command}
use Rattle.zk_listing.specs.declared.script_fault.ScriptFault.{ScriptFault}
use Rattle.zk_listing.specs.declared.script_fault.ScriptFault.TheVariants as faults

pub record SoFar (old : Debugging) (script before left : List ℕ) (number : ℕ) (after : List ℕ) (new : Debugging) : Type 0 where
  pub commands : List Command
  pub lines : lines_of script ≡ map command_text commands ++ lines_of left
  pub say : AllByRecursion IsCommand commands
  pub answers : List ℕ
  pub answered : AnswersAll old commands answers new
  pub told : after ≡ before ++ answers
  pub counted : number ≡ length commands
  pub short : number + length left ≤ length script

pub none_yet : (old : Debugging) (script before : List ℕ) → SoFar old script before script 0 before old
none_yet old script before = record { commands = []; lines = refl; say = tt; answers = []; answered = (refl, refl); told = sym (append-nil before); counted = refl; short = omega arith }

answers_more : (commands : List Command) (command : Command) (old between new : Debugging) (answers answer : List ℕ) → AnswersAll old commands answers between → Answers between command answer new → AnswersAll old (commands ++ command ∷ []) (answers ++ answer) new
answers_more [] command old between new answers answer h one = (
  new,
  answer,
  [],
  subst (λ (d : Debugging). Answers d command answer new) h.1 one,
  (refl, refl),
  ap (λ (xs : List ℕ). xs ++ answer) h.0 ∙ sym (append-nil answer),
)
answers_more (first ∷ commands) command old between new answers answer h one = (
  h.0,
  h.1,
  h.2 ++ answer,
  h.3,
  answers_more commands command h.0 between new h.2 answer h.4 one,
  ap (λ (xs : List ℕ). xs ++ answer) h.5 ∙ append_assoc h.1 h.2 answer,
)

all_more : (commands : List Command) (command : Command) → AllByRecursion IsCommand commands → IsCommand command → AllByRecursion IsCommand (commands ++ command ∷ [])
all_more [] command all one = (one, tt)
all_more (first ∷ commands) command all one = (all.0, all_more commands command all.1 one)

lines_more : (commands : List Command) (command : Command) (left : List (List ℕ)) → map command_text commands ++ (command_text command ∷ left) ≡ map command_text (commands ++ command ∷ []) ++ left
lines_more [] command left = refl
lines_more (first ∷ commands) command left = ap (λ (lines : List (List ℕ)). command_text first ∷ lines) (lines_more commands command left)

module _ (old : Debugging) (script before left : List ℕ) (number : ℕ) (after : List ℕ) (between : Debugging) (h : SoFar old script before left number after between) (line others : List ℕ) (split : lines_of left ≡ line ∷ lines_of others) where
  pub one_more_line : (command : Command) (after' : List ℕ) (new : Debugging) → length others < length left → Says line command → Obeys between command after (Ok tt) after' new → SoFar old script before others (number + 1) after' new
  one_more_line command after' new shorter says obeys = record {
    commands = h.commands ++ command ∷ [];
    lines = h.lines ∙ ap (λ (lines : List (List ℕ)). map command_text h.commands ++ lines) (split ∙ ap (λ (l : List ℕ). l ∷ lines_of others) says.spelled) ∙ lines_more h.commands command (lines_of others);
    say = all_more h.commands command h.say says.fits;
    answers = h.answers ++ obeys.answer;
    answered = answers_more h.commands command old between new h.answers obeys.answer h.answered obeys.answers;
    told = obeys.told ∙ ap (λ (xs : List ℕ). xs ++ obeys.answer) h.told ∙ append_assoc before h.answers obeys.answer;
    counted = omega (arith, length-append {A = Command}, h.counted);
    short = omega (arith, h.short);
  }

  left_lines : lines_of script ≡ map command_text h.commands ++ (line ∷ lines_of others)
  left_lines = h.lines ∙ ap (λ (lines : List (List ℕ)). map command_text h.commands ++ lines) split

  pub malformed_line : SaysNothing line → RunsScript old script before (Err (faults.Malformed (number + 1))) after between
  malformed_line nothing = record {
    commands = h.commands;
    left = line ∷ lines_of others;
    lines = left_lines;
    say = h.say;
    between = between;
    answers = h.answers;
    answered = h.answered;
    told = h.told;
    ends = (ap (λ n. n + 1) h.counted, nothing, refl);
  }

  pub unread_line : RunsScript old script before (Err faults.NoMemory) after between
  unread_line = record {
    commands = h.commands;
    left = line ∷ lines_of others;
    lines = left_lines;
    say = h.say;
    between = between;
    answers = h.answers;
    answered = h.answered;
    told = h.told;
    ends = inl refl;
  }

  pub unanswered_line : (command : Command) (refused : NoMemory) (after' : List ℕ) (new : Debugging) → Says line command → Obeys between command after (Err refused) after' new → after' ≡ after → RunsScript old script before (Err faults.NoMemory) after' new
  unanswered_line command refused after' new says obeys unchanged = record {
    commands = h.commands;
    left = line ∷ lines_of others;
    lines = left_lines;
    say = h.say;
    between = between;
    answers = h.answers;
    answered = h.answered;
    told = unchanged ∙ h.told;
    ends = inr (command, obeys.answer, says, obeys.answers);
  }

pub no_line_left : (old : Debugging) (script before left : List ℕ) (number : ℕ) (after : List ℕ) (new : Debugging) → SoFar old script before left number after new → left ≡ [] → RunsScript old script before (Ok tt) after new
unfolding lines_of
no_line_left old script before left number after new h end = record {
  commands = h.commands;
  left = [];
  lines = h.lines ∙ ap (λ (xs : List ℕ). map command_text h.commands ++ lines_of xs) end;
  say = h.say;
  between = new;
  answers = h.answers;
  answered = h.answered;
  told = h.told;
  ends = refl;
}
