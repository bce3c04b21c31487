-- The output of a debugger for a script: a definition of this project.
use Rattle.std.specs.Prelude.{◌≡◌, ◌+◌, ◌⊎◌, ℕ, List, [], ◌∷◌, ◌++◌, length, map, Result, Ok, Err}
use Rattle.std.specs.List.{AllByRecursion}
use Rattle.zk_debug.specs.Debugging.{Debugging}
use Rattle.zk_listing.specs.Lines.{lines_of}
use Rattle.zk_debug.specs.Answers.{Answers}
use Rattle.zk_debug.specs.Commands.{command_text, IsCommand, Says, SaysNothing}
use Rattle.zk_debug.specs.declared.command.Command.{Command}
use Rattle.zk_listing.specs.declared.script_fault.ScriptFault.{ScriptFault}
use Rattle.zk_listing.specs.declared.script_fault.ScriptFault.TheVariants as faults

-- the output for commands in order
abbrev pub AnswersAll : Debugging → List Command → List ℕ → Debugging → Type 0
AnswersAll old [] answers new = (answers ≡ []) × (new ≡ old)
AnswersAll old (command ∷ commands) answers new =
    (between : Debugging) × (answer : List ℕ) × (others : List ℕ) × Answers old command answer between × AnswersAll between commands others new × (answers ≡ answer ++ others)

-- A script stops after n commands, with these lines left: there are none, or the first is not a
-- command. If an allocation failed, the command of the first may have been executed without output.
abbrev pub EndsScript : ℕ → List (List ℕ) → Debugging → Result (Unit {0}) ScriptFault → Debugging → Type 0
EndsScript done [] between (Ok x) new = new ≡ between
EndsScript done (line ∷ lines) between (Err (faults.Malformed number)) new = (number ≡ done + 1) × SaysNothing line × (new ≡ between)
EndsScript done (line ∷ lines) between (Err faults.NoMemory) new =
    (new ≡ between) ⊎ ((command : Command) × (answer : List ℕ) × Says line command × Answers between command answer new)
EndsScript done left between result new = ⊥

-- the commands of a script are executed up to its end, or to its first line that is not a command
pub record RunsScript (old : Debugging) (script before : List ℕ) (result : Result (Unit {0}) ScriptFault) (after : List ℕ) (new : Debugging) : Type 0 where
  pub commands : List Command
  pub left : List (List ℕ)
  pub lines : lines_of script ≡ map command_text commands ++ left
  pub say : AllByRecursion IsCommand commands
  pub between : Debugging
  pub answers : List ℕ
  pub answered : AnswersAll old commands answers between
  pub told : after ≡ before ++ answers
  pub ends : EndsScript (length commands) left between result new
