-- The output of a session for the lines of a script: a law of this project.
use Rattle.std.specs.Prelude.{◌≡◌, ◌≤◌, ℕ, List, [], ◌∷◌, length, false, Ok}
use Rattle.std.specs.List.{AllByRecursion, flat_map}
use Rattle.std.specs.Str.{IsUtf8}
use Rattle.zk_debug.specs.Debugging.{Debugging}
use Rattle.zk_debug.specs.Answers.{Answers}
use Rattle.zk_debug.specs.Commands.{Says}
use Rattle.zk_debug.specs.Scripts.{RunsScript}
use Rattle.zk_debug.specs.declared.command.Command.{Command}
use Rattle.zk_commands.specs.declared.session.Session.{Session}
use Rattle.zk_listing.specs.Lines.{lines_of}
use Rattle.zk_commands.specs.Lines.{most_bytes}
use Rattle.zk_commands.specs.Talking.{Talks}
use Rattle.zk_commands.specs.Shown.{in_words}

-- a line that is a command, and short enough to be read
abbrev pub IsScriptLine : List ℕ → Type 0
IsScriptLine line = IsUtf8 line × (length line ≤ most_bytes) × ((command : Command) × Says line command)

-- the output of each command
abbrev pub AnswersEach : Debugging → List Command → List (List ℕ) → Debugging → Type 0
AnswersEach old [] outputs new = (outputs ≡ []) × (new ≡ old)
AnswersEach old (command ∷ commands) outputs new =
    (between : Debugging) × (output : List ℕ) × (others : List (List ℕ)) × Answers old command output between × AnswersEach between commands others new × (outputs ≡ output ∷ others)

-- the script prints these outputs, one after the other; the session prints each with its fault in words
pub record PrintsInWords (old : Debugging) (script text : List ℕ) (new : Debugging) : Type 0 where
  pub commands : List Command
  pub outputs : List (List ℕ)
  pub each : AnswersEach old commands outputs new
  pub script_prints : RunsScript old script [] (Ok tt) (flat_map (λ output. output) outputs) new
  pub session_prints : text ≡ flat_map in_words outputs

-- a session without prompts does for the lines of a script what the script does
abbrev pub SessionsAnswerScripts : Type 0
SessionsAnswerScripts = (old new : Session) (script text : List ℕ) → AllByRecursion IsScriptLine (lines_of script) → Talks false old (lines_of script) text new → PrintsInWords old.debugger script text new.debugger
