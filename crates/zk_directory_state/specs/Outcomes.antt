-- What a command on a data directory writes to its output and to standard error, by its status.
use Rattle.std.specs.Prelude.{ℕ, zero, suc, ℤ, List, Option, Some, Result, Ok, Err, IsErr, String}
use Rattle.std.specs.Global.{Global}
use Rattle.std.specs.String.{string_bytes}
use Rattle.zk_directory_state.specs.Files.{ListsFiles}
use Rattle.zk_directory_state.specs.FaultLines.{beyond_line, fault_line}
use Rattle.zk_directory_state.specs.declared.fault.HistoryFault.{HistoryFault}
use Rattle.zk_directory_state.specs.declared.fault.HistoryFault.TheVariants as faults
use Rattle.zk_json.specs.Times.{IsTimeText}
use Rattle.zk_log_commands.specs.Telling.{Outputs, Told}
use Rattle.zk_log_commands.specs.Writing.{LeavesSink}
use Rattle.zk_path.specs.declared.memory.NoMemory.{NoMemory}
use Rattle.zk_records.specs.declared.sink.Sink.{Sink}

-- ---- a directory that is rejected

-- its line is written, and the status is 1; or an allocation for the line failed
abbrev pub TellsLine : {E : Type 0} → (E → Option (List ℕ)) → List ℕ → Sink E → Sink E → Result ℕ NoMemory → Type 0
TellsLine told line faults faults' (Ok zero) = ⊥
TellsLine told line faults faults' (Ok (suc zero)) = Told told faults faults' line
TellsLine told line faults faults' (Ok (suc (suc more))) = ⊥
TellsLine told line faults faults' (Err refused) = LeavesSink told faults faults'

-- the last transaction, with the time of a clock
abbrev pub TellsBeyond : {E : Type 0} → (E → Option (List ℕ)) → ℤ → ℤ → Sink E → Sink E → Result ℕ NoMemory → Type 0
TellsBeyond told last time faults faults' (Ok status) = (clock : List ℕ) × IsTimeText time clock × TellsLine told (beyond_line last clock) faults faults' (Ok status)
TellsBeyond told last time faults faults' (Err refused) = LeavesSink told faults faults'

abbrev pub TellsFault : {E : Type 0} → (E → Option (List ℕ)) → HistoryFault → Sink E → Sink E → Result ℕ NoMemory → Type 0
TellsFault told faults.NoMemory faults faults' result = IsErr result × LeavesSink told faults faults'
TellsFault told (faults.Beyond last (Some time)) faults faults' result = TellsBeyond told last time faults faults' result
TellsFault told fault faults faults' result = TellsLine told (fault_line fault) faults faults' result

abbrev pub Rejects : {O E : Type 0} → (O → Option (List ℕ)) → (E → Option (List ℕ)) → HistoryFault → Sink O → Sink O → Sink E → Sink E → Result ℕ NoMemory → Type 0
Rejects written told fault output output' faults faults' result = LeavesSink written output output' × TellsFault told fault faults faults' result

-- ---- `zk files`

abbrev pub OutputsFiles : {O E : Type 0} → (O → Option (List ℕ)) → (E → Option (List ℕ)) → Result (String Global) HistoryFault → Sink O → Sink O → Sink E → Sink E → Result ℕ NoMemory → Type 0
OutputsFiles written told (Ok text) output output' faults faults' result = Outputs written told (string_bytes text) output output' faults faults' result
OutputsFiles written told (Err fault) output output' faults faults' result = Rejects written told fault output output' faults faults' result

-- the files are listed
pub record TellsFiles {O E : Type 0} (written : O → Option (List ℕ)) (told : E → Option (List ℕ)) (snapshots : Option (List (List ℕ))) (snapshot_bytes : List ℕ → Option (List ℕ)) (logs : Option (List (List ℕ))) (log_bytes : List ℕ → Option (List ℕ)) (output output' : Sink O) (faults faults' : Sink E) (result : Result ℕ NoMemory) : Type 0 where
  pub answer : Result (String Global) HistoryFault
  pub lists : ListsFiles snapshots snapshot_bytes logs log_bytes answer
  pub outputs : OutputsFiles written told answer output output' faults faults' result
