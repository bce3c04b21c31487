-- The answers to a run script. This project's own.
use Rattle.std.specs.Prelude.{◌≡◌, ◌+◌, ◌⊎◌, ℕ, List, [], ◌∷◌, ◌++◌, length, Result, Ok, Err, codes}
use Rattle.zk_ensemble.specs.Views.{EnsembleView}
use Rattle.zk_run_script.specs.FirstLines.{SaysServers}
use Rattle.zk_run_script.specs.Commands.{Says, SaysNothing}
use Rattle.zk_run_script.specs.declared.command.Command.{Command}
use Rattle.zk_listing.specs.Lines.{lines_of}
use Rattle.zk_listing.specs.declared.script_fault.ScriptFault.{ScriptFault}
use Rattle.zk_listing.specs.declared.script_fault.ScriptFault.TheVariants as faults
use Rattle.zk_run_script.specs.Playing.{started, Answers}

-- each line has its command
abbrev pub SayAll : ℕ → List (List ℕ) → List Command → Type 0
SayAll servers [] [] = Unit {0}
SayAll servers (line ∷ lines) (command ∷ commands) = Says servers line command × SayAll servers lines commands
SayAll servers lines commands = ⊥

-- the answers to commands in turn
abbrev pub AnswersAll : EnsembleView → List Command → List ℕ → EnsembleView → Type 0
AnswersAll old [] answers new = (answers ≡ []) × (new ≡ old)
AnswersAll old (command ∷ commands) answers new =
    (between : EnsembleView) × (answer : List ℕ) × (others : List ℕ) × Answers old command answer between × AnswersAll between commands others new × (answers ≡ answer ++ others)

-- Why a script ends after its first line and `n` commands, with these lines left: none is left, or
-- the first of them is no command. If an allocation failed, the command of the first may be
-- executed already, without its answer.
abbrev pub EndsScript : ℕ → ℕ → List (List ℕ) → EnsembleView → Result (Unit {0}) ScriptFault → EnsembleView → Type 0
EndsScript servers done [] between (Ok x) new = new ≡ between
EndsScript servers done (line ∷ lines) between (Err (faults.Malformed number)) new = (number ≡ done + 2) × SaysNothing servers line × (new ≡ between)
EndsScript servers done (line ∷ lines) between (Err faults.NoMemory) new =
    (new ≡ between) ⊎ ((command : Command) × (answer : List ℕ) × Says servers line command × Answers between command answer new)
EndsScript servers done left between result new = ⊥

-- commands are executed up to the end of the text, or to its first line that is no command
pub record Plays (servers : ℕ) (old : EnsembleView) (text before : List ℕ) (result : Result (Unit {0}) ScriptFault) (after : List ℕ) (new : EnsembleView) : Type 0 where
  pub said : List (List ℕ)
  pub left : List (List ℕ)
  pub lines : lines_of text ≡ said ++ left
  pub commands : List Command
  pub say : SayAll servers said commands
  pub between : EnsembleView
  pub answers : List ℕ
  pub answered : AnswersAll old commands answers between
  pub told : after ≡ before ++ answers
  pub ends : EndsScript servers (length commands) left between result new

-- servers of these weights start, and execute what follows
pub record Begins (weights text before : List ℕ) (result : Result (Unit {0}) ScriptFault) (after : List ℕ) : Type 0 where
  pub new : EnsembleView
  pub plays : Plays (length weights) (started weights) text (before ++ codes "ok\n") result after new

-- or their allocation fails
abbrev pub BeginsOrNot : List ℕ → List ℕ → List ℕ → Result (Unit {0}) ScriptFault → List ℕ → Type 0
BeginsOrNot weights text before result after = Begins weights text before result after ⊎ ((result ≡ Err faults.NoMemory) × (after ≡ before))

-- the first line has no number and weights of servers
abbrev pub BeginsWithNone : List (List ℕ) → Type 0
BeginsWithNone [] = Unit {0}
BeginsWithNone (first ∷ lines) = (weights : List ℕ) → SaysServers first weights → ⊥

-- a script begins with the number of its servers, and their weights
pub record BeginsWell (script before : List ℕ) (result : Result (Unit {0}) ScriptFault) (after : List ℕ) : Type 0 where
  pub first : List ℕ
  pub text : List ℕ
  pub lines : lines_of script ≡ first ∷ lines_of text
  pub weights : List ℕ
  pub counted : SaysServers first weights
  pub begins : BeginsOrNot weights text before result after

-- the answers to a script: a rejected first line changes nothing
abbrev pub RunsScript : List ℕ → List ℕ → Result (Unit {0}) ScriptFault → List ℕ → Type 0
RunsScript script before result after =
    BeginsWell script before result after ⊎ (BeginsWithNone (lines_of script) × (result ≡ Err (faults.Malformed 1)) × (after ≡ before))
