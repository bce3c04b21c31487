-- What the command `debug` writes without a script: a session over a log. A definition of this
-- project.
use Rattle.std.specs.Prelude.{◌≡◌, ◌⊎◌, ℕ, ℤ, List, [], Bool, Option, Result, Ok, Err, IsErr, codes}
use Rattle.std.specs.String.{string_bytes}
use Rattle.zk_debug.specs.Debugging.{Debugging, started}
use Rattle.zk_records.specs.Sinks.{writer_of}
use Rattle.zk_log.specs.Devices.{reader_of}
use Rattle.zk_log.specs.declared.fault.LogFault.{LogFault}
use Rattle.zk_log.specs.declared.fault.LogFault.TheVariants as log_faults
use Rattle.zk_log.specs.declared.loaded.Loaded.{Loaded}
use Rattle.zk_records.specs.declared.sink.Sink.{Sink}
use Rattle.zk_log.specs.declared.source.Source.{Source}
use Rattle.zk_path.specs.declared.memory.NoMemory.{NoMemory}
use Rattle.zk_table.specs.States.{start_state}
use Rattle.zk_table.specs.declared.txn.Txn.{Txn}
use Rattle.zk_log_commands.specs.FaultLines.{line_of_log_fault}
use Rattle.zk_log_commands.specs.Notices.{begins_within}
use Rattle.zk_log_commands.specs.Telling.{EndsNoted, Told, Loads, OutputsNothing, GivesUp}
use Rattle.zk_log_commands.specs.Writing.{LeavesSink}
use Rattle.zk_commands.specs.declared.session.Session.{Session}
use Rattle.zk_commands.specs.declared.session.TalkFault.{TalkFault}
use Rattle.zk_commands.specs.declared.session.TalkFault.TheVariants as faults
use Rattle.zk_commands.specs.HearingLines.{ReadsSo}
use Rattle.zk_commands.specs.Talking.{Talked, WritesSo}

-- the line on standard error for the end of a session, and the exit status
abbrev pub TellsEnd : {E : Type 0} → (E → Option (List ℕ)) → Result (Unit {0}) TalkFault → Option ℤ → Sink E → Sink E → Result ℕ NoMemory → Type 0
TellsEnd told (Ok done) notice faults faults' result = EndsNoted told notice faults faults' result
TellsEnd told (Err faults.Read) notice faults faults' result = (result ≡ Ok 1) × Told told faults faults' (codes "zk: read\n")
TellsEnd told (Err faults.Write) notice faults faults' result = (result ≡ Ok 1) × Told told faults faults' (codes "zk: write\n")
TellsEnd told (Err faults.NoMemory) notice faults faults' result = IsErr result × LeavesSink told faults faults'

-- a session started with this debugger, and the notice on its log followed
pub record Sits {L O E : Type 0} (remaining : L → Option (List ℕ)) (written : O → Option (List ℕ)) (told : E → Option (List ℕ)) (prompts : Bool) (notice : Option ℤ) (first : Debugging) (lines lines' : Source L) (output output' : Sink O) (faults faults' : Sink E) (result : Result ℕ NoMemory) : Type 0 where
  pub start : Session
  pub debugger : start.debugger ≡ first
  pub began : start.began ≡ 0
  pub last : string_bytes start.last ≡ []
  pub end : Session
  pub ended : Result (Unit {0}) TalkFault
  pub talked : Talked prompts start (remaining (reader_of lines)) (remaining (reader_of lines')) (written (writer_of output)) (written (writer_of output')) ended end
  pub reads : ReadsSo lines ended lines'
  pub writes : WritesSo output ended output'
  pub tells : TellsEnd told ended notice faults faults' result

-- it started at the start of the log, or an allocation for it failed, and no line was read
abbrev pub HoldsOver : {L O E : Type 0} → (L → Option (List ℕ)) → (O → Option (List ℕ)) → (E → Option (List ℕ)) → Bool → List Txn → Source L → Source L → Sink O → Sink O → Sink E → Sink E → Result ℕ NoMemory → Type 0
HoldsOver remaining written told prompts txns lines lines' output output' faults faults' result =
    Sits remaining written told prompts (begins_within txns) (started start_state txns) lines lines' output output' faults faults' result ⊎ ((lines' ≡ lines) × GivesUp written told output output' faults faults' result)

-- no line is read if the log is rejected
abbrev pub GoesOn : {L O E : Type 0} → (L → Option (List ℕ)) → (O → Option (List ℕ)) → (E → Option (List ℕ)) → Bool → Result Loaded LogFault → Source L → Source L → Sink O → Sink O → Sink E → Sink E → Result ℕ NoMemory → Type 0
GoesOn remaining written told prompts (Ok loaded) lines lines' output output' faults faults' result = HoldsOver remaining written told prompts loaded.txns lines lines' output output' faults faults' result
GoesOn remaining written told prompts (Err log_faults.NoMemory) lines lines' output output' faults faults' result = (lines' ≡ lines) × GivesUp written told output output' faults faults' result
GoesOn remaining written told prompts (Err fault) lines lines' output output' faults faults' result = (lines' ≡ lines) × OutputsNothing written told (line_of_log_fault fault) output output' faults faults' result

-- a log is loaded, and then a session is held over it
pub record RunsRepl {F L O E : Type 0} (remaining : F → Option (List ℕ)) (remaining_lines : L → Option (List ℕ)) (written : O → Option (List ℕ)) (told : E → Option (List ℕ)) (prompts : Bool) (file file' : Source F) (lines lines' : Source L) (output output' : Sink O) (faults faults' : Sink E) (result : Result ℕ NoMemory) : Type 0 where
  pub log : Result Loaded LogFault
  pub loads : Loads remaining file file' 1048576 log
  pub goes_on : GoesOn remaining_lines written told prompts log lines lines' output output' faults faults' result
