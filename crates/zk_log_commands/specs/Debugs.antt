-- What the command `debug` writes: the output for a script over a log.
use Rattle.std.specs.Prelude.{◌≡◌, ◌⊎◌, ℕ, ℤ, ◌+◌, ◌≤◌, List, [], Option, Some, None, Result, Ok, Err, IsOk, IsSome, codes}
use Rattle.std.specs.Str.{IsUtf8}
use Rattle.zk_debug.specs.Debugging.{Debugging, started}
use Rattle.zk_log.specs.Devices.{reader_of, reads_of}
use Rattle.zk_log.specs.declared.fault.LogFault.{LogFault}
use Rattle.zk_log.specs.declared.fault.LogFault.TheVariants as log_faults
use Rattle.zk_log.specs.declared.loaded.Loaded.{Loaded}
use Rattle.zk_records.specs.declared.sink.Sink.{Sink}
use Rattle.zk_log.specs.declared.source.Source.{Source}
use Rattle.zk_machine.specs.Machines.{MachineView}
use Rattle.zk_path.specs.declared.memory.NoMemory.{NoMemory}
use Rattle.zk_debug.specs.Scripts.{RunsScript}
use Rattle.zk_listing.specs.declared.script_fault.ScriptFault.{ScriptFault}
use Rattle.zk_listing.specs.declared.script_fault.ScriptFault.TheVariants as script_faults
use Rattle.zk_table.specs.States.{State, start_state}
use Rattle.zk_table.specs.declared.txn.Txn.{Txn}
use Rattle.zk_log_commands.specs.Answering.{OutputsAnswers}
use Rattle.zk_log_commands.specs.FaultLines.{line_of_log_fault}
use Rattle.zk_log_commands.specs.Notices.{begins_within}
use Rattle.zk_log_commands.specs.Reading.{ReadsAll, TellsRead}
use Rattle.zk_log_commands.specs.Telling.{Loads, OutputsNothing, OutputsNoted, GivesUp}
use Rattle.zk_log_commands.specs.declared.text.TextFault.{TextFault}
use Rattle.zk_log_commands.specs.declared.text.TextFault.TheVariants as text_faults

-- the state that a log continues: without a base the start state
abbrev pub state_of_base : Option MachineView → State
state_of_base None = start_state
state_of_base (Some base) = base.state

-- a script was executed from the start of a log, except for an allocation failure
abbrev pub RunsFromStart : State → List Txn → List ℕ → List ℕ → Result (Unit {0}) ScriptFault → List ℕ → Type 0
RunsFromStart base txns script before (Err script_faults.NoMemory) after = Unit {0}
RunsFromStart base txns script before ran after = (new : Debugging) × RunsScript (started base txns) script before ran after new

-- the output for a script, and then the notice on its log; only an allocation for it can fail
abbrev pub OutputsDebug : {O E : Type 0} → (O → Option (List ℕ)) → (E → Option (List ℕ)) → Option ℤ → Result (Unit {0}) ScriptFault → List ℕ → Sink O → Sink O → Sink E → Sink E → Result ℕ NoMemory → Type 0
OutputsDebug written told notice (Ok done) answers output output' faults faults' result = OutputsNoted written told answers notice output output' faults faults' result × (IsOk result ⊎ IsSome notice)
OutputsDebug written told notice (Err fault) answers output output' faults faults' result = OutputsAnswers written told (Err fault) answers output output' faults faults' result

pub record Runs {O E : Type 0} (written : O → Option (List ℕ)) (told : E → Option (List ℕ)) (notice : Option ℤ) (base : State) (txns : List Txn) (script : List ℕ) (output output' : Sink O) (faults faults' : Sink E) (result : Result ℕ NoMemory) : Type 0 where
  pub ran : Result (Unit {0}) ScriptFault
  pub answers : List ℕ
  pub runs : RunsFromStart base txns script [] ran answers
  pub outputs : OutputsDebug written told notice ran answers output output' faults faults' result

-- ---- by what was read

abbrev pub OutputsScript : {O E : Type 0} → (O → Option (List ℕ)) → (E → Option (List ℕ)) → Option ℤ → State → List Txn → Result (List ℕ) TextFault → Sink O → Sink O → Sink E → Sink E → Result ℕ NoMemory → Type 0
OutputsScript written told notice base txns (Ok script) output output' faults faults' result = IsUtf8 script × Runs written told notice base txns script output output' faults faults' result
OutputsScript written told notice base txns (Err text_faults.Read) output output' faults faults' result = OutputsNothing written told (codes "zk: read\n") output output' faults faults' result
OutputsScript written told notice base txns (Err text_faults.Utf8) output output' faults faults' result = OutputsNothing written told (codes "zk: utf8\n") output output' faults faults' result
OutputsScript written told notice base txns (Err text_faults.NoMemory) output output' faults faults' result = GivesUp written told output output' faults faults' result

-- a script is read whole, and then executed
pub record ReadsScript {S O E : Type 0} (remaining : S → Option (List ℕ)) (written : O → Option (List ℕ)) (told : E → Option (List ℕ)) (notice : Option ℤ) (base : State) (txns : List Txn) (script script' : Source S) (output output' : Sink O) (faults faults' : Sink E) (result : Result ℕ NoMemory) : Type 0 where
  pub text : Result (List ℕ) TextFault
  pub reads : ReadsAll (λ bytes. bytes) (remaining (reader_of script)) text
  pub tells : TellsRead script 1048576 text script'
  pub sparing : reads_of script' ≤ reads_of script + 1048576
  pub outputs : OutputsScript written told notice base txns text output output' faults faults' result

-- the script is not read if the log is rejected
abbrev pub GoesOn : {S O E : Type 0} → (S → Option (List ℕ)) → (O → Option (List ℕ)) → (E → Option (List ℕ)) → Result Loaded LogFault → Source S → Source S → Sink O → Sink O → Sink E → Sink E → Result ℕ NoMemory → Type 0
GoesOn remaining written told (Ok loaded) script script' output output' faults faults' result = ReadsScript remaining written told (begins_within loaded.txns) start_state loaded.txns script script' output output' faults faults' result
GoesOn remaining written told (Err log_faults.NoMemory) script script' output output' faults faults' result = (script' ≡ script) × GivesUp written told output output' faults faults' result
GoesOn remaining written told (Err fault) script script' output output' faults faults' result = (script' ≡ script) × OutputsNothing written told (line_of_log_fault fault) output output' faults faults' result

-- a log is loaded, and then a script is executed over it
pub record Debugs {F S O E : Type 0} (remaining : F → Option (List ℕ)) (remaining_script : S → Option (List ℕ)) (written : O → Option (List ℕ)) (told : E → Option (List ℕ)) (file file' : Source F) (script script' : Source S) (output output' : Sink O) (faults faults' : Sink E) (result : Result ℕ NoMemory) : Type 0 where
  pub log : Result Loaded LogFault
  pub loads : Loads remaining file file' 1048576 log
  pub goes_on : GoesOn remaining_script written told log script script' output output' faults faults' result
