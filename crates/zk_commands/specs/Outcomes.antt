-- What the command `debug` writes for a data directory.
use Rattle.std.specs.Prelude.{◌≡◌, ◌⊎◌, ℕ, List, Bool, Option, None, Result, Ok, Err}
use Rattle.zk_commands.specs.Holding.{Sits}
use Rattle.zk_debug.specs.Debugging.{started}
use Rattle.zk_directory_state.specs.Outcomes.{Rejects}
use Rattle.zk_directory_state.specs.declared.fault.HistoryFault.{HistoryFault}
use Rattle.zk_log.specs.declared.source.Source.{Source}
use Rattle.zk_log_commands.specs.Debugs.{ReadsScript}
use Rattle.zk_log_commands.specs.Telling.{GivesUp}
use Rattle.zk_path.specs.declared.memory.NoMemory.{NoMemory}
use Rattle.zk_records.specs.declared.sink.Sink.{Sink}
use Rattle.zk_directory_state.specs.declared.upto.Upto.{Upto}
use Rattle.zk_commands.specs.Starts.{Directory, FindsStart}
use Rattle.zk_commands.specs.declared.start.Start.{Start}

-- ---- a script

-- the script is not read if the directory is rejected
abbrev pub OutputsScript : {S O E : Type 0} → (S → Option (List ℕ)) → (O → Option (List ℕ)) → (E → Option (List ℕ)) → Result Start HistoryFault → Source S → Source S → Sink O → Sink O → Sink E → Sink E → Result ℕ NoMemory → Type 0
OutputsScript remaining written told (Ok start) script script' output output' faults faults' result = ReadsScript remaining written told None start.base.state start.txns script script' output output' faults faults' result
OutputsScript remaining written told (Err fault) script script' output output' faults faults' result = (script' ≡ script) × Rejects written told fault output output' faults faults' result

-- a script is executed over the directory's history
pub record DebugsDirectory {S O E : Type 0} (remaining : S → Option (List ℕ)) (written : O → Option (List ℕ)) (told : E → Option (List ℕ)) (directory : Directory) (from : Option Upto) (script script' : Source S) (output output' : Sink O) (faults faults' : Sink E) (result : Result ℕ NoMemory) : Type 0 where
  pub start : Result Start HistoryFault
  pub starts : FindsStart directory from start
  pub outputs : OutputsScript remaining written told start script script' output output' faults faults' result

-- ---- a session

-- or an allocation for it failed, and no line was read
abbrev pub HoldsSession : {L O E : Type 0} → (L → Option (List ℕ)) → (O → Option (List ℕ)) → (E → Option (List ℕ)) → Bool → Start → Source L → Source L → Sink O → Sink O → Sink E → Sink E → Result ℕ NoMemory → Type 0
HoldsSession remaining written told prompts start lines lines' output output' faults faults' result =
    Sits remaining written told prompts None (started start.base.state start.txns) lines lines' output output' faults faults' result ⊎ ((lines' ≡ lines) × GivesUp written told output output' faults faults' result)

-- no line is read if the directory is rejected
abbrev pub OutputsSession : {L O E : Type 0} → (L → Option (List ℕ)) → (O → Option (List ℕ)) → (E → Option (List ℕ)) → Bool → Result Start HistoryFault → Source L → Source L → Sink O → Sink O → Sink E → Sink E → Result ℕ NoMemory → Type 0
OutputsSession remaining written told prompts (Ok start) lines lines' output output' faults faults' result = HoldsSession remaining written told prompts start lines lines' output output' faults faults' result
OutputsSession remaining written told prompts (Err fault) lines lines' output output' faults faults' result = (lines' ≡ lines) × Rejects written told fault output output' faults faults' result

-- a session is held over the directory's history
pub record RunsDirectory {L O E : Type 0} (remaining : L → Option (List ℕ)) (written : O → Option (List ℕ)) (told : E → Option (List ℕ)) (prompts : Bool) (directory : Directory) (from : Option Upto) (lines lines' : Source L) (output output' : Sink O) (faults faults' : Sink E) (result : Result ℕ NoMemory) : Type 0 where
  pub start : Result Start HistoryFault
  pub starts : FindsStart directory from start
  pub outputs : OutputsSession remaining written told prompts start lines lines' output output' faults faults' result
