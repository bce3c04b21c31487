-- A script of which a prefix of lines is executed.
use Rattle.std.proofs.Common.{◌≡◌, ℕ, ◌+◌, ◌≤◌, ◌<◌, List, [], ◌∷◌, ◌++◌, length, Result, Ok, Err, refl, sym, ap, subst, ◌∙◌, inl, inr, append_assoc, length-append, arith}
use Rattle.std.proofs.lemmas.List.{append-nil}
use Rattle.zk_ensemble.specs.Views.{EnsembleView}
use Rattle.zk_listing.specs.declared.list_fault.ListCause.{ListCause}
use Rattle.zk_listing.specs.declared.list_fault.ListCause.TheVariants as causes
use Rattle.zk_path.specs.declared.memory.NoMemory.{NoMemory}
use Rattle.zk_run_script.specs.FirstLines.{SaysServers, ReadsServers}
use Rattle.zk_run_script.specs.Commands.{Says, SaysNothing, ReadsCommand}
use Rattle.zk_run_script.specs.declared.command.Command.{Command}
use Rattle.zk_listing.specs.Lines.{lines_of}
use Rattle.zk_listing.specs.declared.script_fault.ScriptFault.{ScriptFault}
use Rattle.zk_listing.specs.declared.script_fault.ScriptFault.TheVariants as faults
use Rattle.zk_run_script.specs.Playing.{Answers, Obeys}
use Rattle.zk_run_script.specs.Scripts.{SayAll, AnswersAll, EndsScript, Plays}

pub record SoFar (servers : ℕ) (old : EnsembleView) (text before left : List ℕ) (number : ℕ) (after : List ℕ) (new : EnsembleView) : Type 0 where
  pub said : List (List ℕ)
  pub lines : lines_of text ≡ said ++ lines_of left
  pub commands : List Command
  pub say : SayAll servers said commands
  pub answers : List ℕ
  pub answered : AnswersAll old commands answers new
  pub told : after ≡ before ++ answers
  pub counted : number ≡ length commands + 1
  pub short : number + length left ≤ length text + 1

pub none_yet : (servers : ℕ) (old : EnsembleView) (text before : List ℕ) → SoFar servers old text before text 1 before old
none_yet servers old text before = record { said = []; lines = refl; commands = []; say = tt; answers = []; answered = (refl, refl); told = sym (append-nil before); counted = refl; short = omega arith }

answers_more : (commands : List Command) (command : Command) (old between new : EnsembleView) (answers answer : List ℕ) → AnswersAll old commands answers between → Answers between command answer new → AnswersAll old (commands ++ command ∷ []) (answers ++ answer) new
answers_more [] command old between new answers answer h one = (
  new,
  answer,
  [],
  subst (λ (d : EnsembleView). Answers d command answer new) h.1 one,
  (refl, refl),
  ap (λ (xs : List ℕ). xs ++ answer) h.0 ∙ sym (append-nil answer),
)
answers_more (first ∷ commands) command old between new answers answer h one = (
  h.0,
  h.1,
  h.2 ++ answer,
  h.3,
  answers_more commands command h.0 between new h.2 answer h.4 one,
  ap (λ (xs : List ℕ). xs ++ answer) h.5 ∙ append_assoc h.1 h.2 answer,
)

say_more : (servers : ℕ) (said : List (List ℕ)) (commands : List Command) (line : List ℕ) (command : Command) → SayAll servers said commands → Says servers line command → SayAll servers (said ++ line ∷ []) (commands ++ command ∷ [])
say_more servers [] [] line command all one = (one, tt)
say_more servers [] (c ∷ commands) line command all one = absurd all
say_more servers (l ∷ said) [] line command all one = absurd all
say_more servers (l ∷ said) (c ∷ commands) line command all one = (all.0, say_more servers said commands line command all.1 one)

module _ (servers : ℕ) (old : EnsembleView) (text before left : List ℕ) (number : ℕ) (after : List ℕ) (between : EnsembleView) (h : SoFar servers old text before left number after between) (line others : List ℕ) (split : lines_of left ≡ line ∷ lines_of others) where
  left_lines : lines_of text ≡ h.said ++ (line ∷ lines_of others)
  left_lines = h.lines ∙ ap (λ (lines : List (List ℕ)). h.said ++ lines) split

  pub one_more_line : (command : Command) (after' : List ℕ) (new : EnsembleView) → length others < length left → Says servers line command → Obeys between command after (Ok tt) after' new → SoFar servers old text before others (number + 1) after' new
  one_more_line command after' new shorter says obeys = record {
    said = h.said ++ line ∷ [];
    lines = left_lines ∙ sym (append_assoc h.said (line ∷ []) (lines_of others));
    commands = h.commands ++ command ∷ [];
    say = say_more servers h.said h.commands line command h.say says;
    answers = h.answers ++ obeys.answer;
    answered = answers_more h.commands command old between new h.answers obeys.answer h.answered obeys.answers;
    told = obeys.told ∙ ap (λ (xs : List ℕ). xs ++ obeys.answer) h.told ∙ append_assoc before h.answers obeys.answer;
    counted = omega (arith, length-append {A = Command}, h.counted);
    short = omega (arith, h.short);
  }

  ended : (result : Result (Unit {0}) ScriptFault) (after' : List ℕ) (new : EnsembleView) → after' ≡ after → EndsScript servers (length h.commands) (line ∷ lines_of others) between result new → Plays servers old text before result after' new
  ended result after' new same ends = record {
    said = h.said;
    left = line ∷ lines_of others;
    lines = left_lines;
    commands = h.commands;
    say = h.say;
    between = between;
    answers = h.answers;
    answered = h.answered;
    told = same ∙ h.told;
    ends = ends;
  }

  pub malformed_line : SaysNothing servers line → Plays servers old text before (Err (faults.Malformed (number + 1))) after between
  malformed_line nothing =
      let counted : number + 1 ≡ length h.commands + 2 = omega (arith, h.counted) in
      ended (Err (faults.Malformed (number + 1))) after between refl (counted, nothing, refl)

  pub unread_line : Plays servers old text before (Err faults.NoMemory) after between
  unread_line = ended (Err faults.NoMemory) after between refl (inl refl)

  pub unanswered_line : (command : Command) (refused : NoMemory) (after' : List ℕ) (new : EnsembleView) → Says servers line command → Obeys between command after (Err refused) after' new → after' ≡ after → Plays servers old text before (Err faults.NoMemory) after' new
  unanswered_line command refused after' new says obeys unchanged = ended (Err faults.NoMemory) after' new unchanged (inr (command, obeys.answer, says, obeys.answers))

pub no_line_left : (servers : ℕ) (old : EnsembleView) (text before left : List ℕ) (number : ℕ) (after : List ℕ) (new : EnsembleView) → SoFar servers old text before left number after new → left ≡ [] → Plays servers old text before (Ok tt) after new
unfolding lines_of
no_line_left servers old text before left number after new h end = record {
  said = h.said;
  left = [];
  lines = h.lines ∙ ap (λ (xs : List ℕ). h.said ++ lines_of xs) end;
  commands = h.commands;
  say = h.say;
  between = new;
  answers = h.answers;
  answered = h.answered;
  told = h.told;
  ends = refl;
}

-- a cause that is no failed allocation
pub says_nothing : (servers : ℕ) (line : List ℕ) (cause : ListCause) → (cause ≡ causes.NoMemory → ⊥) → ReadsCommand servers line (Err cause) → SaysNothing servers line
says_nothing servers line causes.NoMemory other read = absurd (other refl)
says_nothing servers line causes.Fields other read = read
says_nothing servers line causes.Number other read = read
says_nothing servers line causes.Quote other read = read
says_nothing servers line causes.Hex other read = read
says_nothing servers line causes.Word other read = read
says_nothing servers line causes.Path other read = read
says_nothing servers line causes.NoNewline other read = read

pub says_no_servers : (line : List ℕ) (cause : ListCause) → (cause ≡ causes.NoMemory → ⊥) → ReadsServers line (Err cause) → (weights : List ℕ) → SaysServers line weights → ⊥
says_no_servers line causes.NoMemory other read = absurd (other refl)
says_no_servers line causes.Fields other read = read
says_no_servers line causes.Number other read = read
says_no_servers line causes.Quote other read = read
says_no_servers line causes.Hex other read = read
says_no_servers line causes.Word other read = read
says_no_servers line causes.Path other read = read
says_no_servers line causes.NoNewline other read = read
