-- The output of a session for one line: a definition of this project.
use Rattle.std.specs.Prelude.{◌≡◌, ◌==◌, ◌-◌, ◌⊎◌, ℕ, List, [], ◌∷◌, ◌++◌, if◌then◌else◌, Option, Some, None}
use Rattle.std.specs.Str.{IsUtf8}
use Rattle.std.specs.String.{string_bytes}
use Rattle.zk_debug.specs.Debugging.{Debugging, state_at}
use Rattle.zk_debug.specs.Answers.{Answers}
use Rattle.zk_debug.specs.Commands.{Says, SaysNothing}
use Rattle.zk_debug.specs.declared.command.Command.{Command}
use Rattle.zk_commands.specs.Shorthand.{long_form}
use Rattle.zk_commands.specs.Shown.{breakpoints_text, in_words, subtree_text}
use Rattle.std.specs.FinMap as finite
use Rattle.zk_commands.specs.Diffs.{diff_text}
use Rattle.zk_commands.specs.Lists.{list_text}
use Rattle.zk_commands.specs.Texts.{told_line, told_bytes, failed_line, help_text}
use Rattle.zk_commands.specs.Words.{own_from}
use Rattle.zk_commands.specs.declared.repl_command.ReplCommand.{ReplCommand}
use Rattle.zk_commands.specs.declared.repl_command.ReplCommand.TheVariants as owns
use Rattle.zk_commands.specs.declared.session.Session.{Session}
use Rattle.zk_commands.specs.declared.session.Turn.{Turn}
use Rattle.zk_commands.specs.declared.session.Turn.TheVariants as turns

-- ---- a command of the debugger

-- the place before the last move: a command that does not move keeps it
abbrev pub began_after : ℕ → Debugging → Debugging → ℕ
began_after began old new = if old.place == new.place then began else old.place

-- the debugger's output is that in a script, a fault in words
pub record Obeys (old : Session) (command : Command) (answer : List ℕ) (new : Session) : Type 0 where
  pub text : List ℕ
  pub answers : Answers old.debugger command text new.debugger
  pub told : answer ≡ in_words text
  pub began : new.began ≡ began_after old.began old.debugger new.debugger

-- ---- another line

-- what is seen at the place, unless the debugger has failed
abbrev pub seen : Session → List ℕ → List ℕ
seen s text = if s.debugger.failed then failed_line else text

-- what was changed since an earlier place
abbrev pub changes_from : Session → ℕ → List ℕ
changes_from s began = seen s (diff_text (state_at s.debugger.base s.debugger.txns began).nodes (state_at s.debugger.base s.debugger.txns s.debugger.place).nodes)

abbrev pub own_answer : Session → ReplCommand → List ℕ
own_answer s owns.Help = help_text
own_answer s (owns.Around count) = list_text s.debugger.txns s.debugger.place count
own_answer s owns.Diff = changes_from s s.began
own_answer s owns.DiffLast = changes_from s (s.debugger.place - 1)
own_answer s (owns.Subtree path) = seen s (subtree_text path (state_at s.debugger.base s.debugger.txns s.debugger.place).nodes)
own_answer s owns.Breakpoints = breakpoints_text (finite.entries s.debugger.breakpoints.standing)
own_answer s (owns.Do command) = []
own_answer s owns.Quit = []

abbrev pub IsSame : Session → Session → Type 0
IsSame old new = (new.debugger ≡ old.debugger) × (new.began ≡ old.began)

abbrev pub AnswersOwn : Session → List ℕ → Option ReplCommand → List ℕ → Session → Type 0
AnswersOwn old line None answer new = (answer ≡ told_line line) × IsSame old new
AnswersOwn old line (Some (owns.Do command)) answer new = Obeys old command answer new
AnswersOwn old line (Some own) answer new = (answer ≡ own_answer old own) × IsSame old new

-- `quit` ends the session
abbrev pub turn_after : Option ReplCommand → Turn
turn_after (Some owns.Quit) = turns.Ends
turn_after own = turns.GoesOn

-- ---- a line in its long form

-- it is a command of a script
pub record AnswersCommand (old : Session) (line answer : List ℕ) (turn : Turn) (new : Session) : Type 0 where
  pub command : Command
  pub says : Says line command
  pub obeys : Obeys old command answer new
  pub goes_on : turn ≡ turns.GoesOn

-- it is any other text
pub record AnswersOther (old : Session) (line answer : List ℕ) (turn : Turn) (new : Session) : Type 0 where
  pub nothing : SaysNothing line
  pub own : AnswersOwn old line (own_from line) answer new
  pub goes : turn ≡ turn_after (own_from line)

-- ---- a line

-- an empty line repeats the last one
abbrev pub repeated : List ℕ → List ℕ → List ℕ
repeated last [] = last
repeated last (byte ∷ bytes) = byte ∷ bytes

pub record AnswersText (old : Session) (line answer : List ℕ) (turn : Turn) (new : Session) : Type 0 where
  pub last : string_bytes new.last ≡ repeated (string_bytes old.last) line
  pub answers : AnswersCommand old (long_form (string_bytes new.last)) answer turn new ⊎ AnswersOther old (long_form (string_bytes new.last)) answer turn new

-- the line is not UTF-8
pub record AnswersBytes (old : Session) (line answer : List ℕ) (turn : Turn) (new : Session) : Type 0 where
  pub bytes : ¬ IsUtf8 line
  pub told : answer ≡ told_bytes
  pub goes_on : turn ≡ turns.GoesOn
  pub same : new ≡ old

abbrev pub AnswersLine : Session → List ℕ → List ℕ → Turn → Session → Type 0
AnswersLine old line answer turn new = AnswersText old line answer turn new ⊎ AnswersBytes old line answer turn new

-- the output is appended
pub record Appends (old : Session) (line before after : List ℕ) (turn : Turn) (new : Session) : Type 0 where
  pub answer : List ℕ
  pub answers : AnswersLine old line answer turn new
  pub told : after ≡ before ++ answer

-- the same for a line in its long form, for a text that is not a command of a script, and for a
-- command
pub record AppendsLong (old : Session) (line before after : List ℕ) (turn : Turn) (new : Session) : Type 0 where
  pub answer : List ℕ
  pub answers : AnswersCommand old line answer turn new ⊎ AnswersOther old line answer turn new
  pub told : after ≡ before ++ answer

pub record AppendsOwn (old : Session) (line : List ℕ) (own : Option ReplCommand) (before after : List ℕ) (turn : Turn) (new : Session) : Type 0 where
  pub answer : List ℕ
  pub answers : AnswersOwn old line own answer new
  pub goes : turn ≡ turn_after own
  pub told : after ≡ before ++ answer

pub record ObeysInto (old : Session) (command : Command) (before after : List ℕ) (new : Session) : Type 0 where
  pub answer : List ℕ
  pub obeys : Obeys old command answer new
  pub told : after ≡ before ++ answer
