-- What the commands write for a data directory.
use Rattle.std.specs.Prelude.{ℕ, List, Option, Result, Ok, Err}
use Rattle.zk_directory_state.specs.Histories.{Holds}
use Rattle.zk_directory_state.specs.Notices.{OutputsWith, notices_of}
use Rattle.zk_directory_state.specs.Reports.{report_of}
use Rattle.zk_directory_state.specs.declared.history.Shown.{Shown}
use Rattle.zk_directory_state.specs.declared.upto.Upto.{Upto}
use Rattle.zk_directory_state.specs.Outcomes.{Rejects}
use Rattle.zk_directory_state.specs.declared.fault.HistoryFault.{HistoryFault}
use Rattle.zk_path.specs.declared.memory.NoMemory.{NoMemory}
use Rattle.zk_records.specs.declared.sink.Sink.{Sink}

abbrev pub OutputsShown : {O E : Type 0} → (O → Option (List ℕ)) → (E → Option (List ℕ)) → Upto → Result Shown HistoryFault → Sink O → Sink O → Sink E → Sink E → Result ℕ NoMemory → Type 0
OutputsShown written told upto (Ok shown) output output' faults faults' result = OutputsWith written told (report_of shown) (notices_of upto shown.restored) output output' faults faults' result
OutputsShown written told upto (Err fault) output output' faults faults' result = Rejects written told fault output output' faults faults' result

-- the state of a directory is shown
pub record TellsShown {O E : Type 0} (written : O → Option (List ℕ)) (told : E → Option (List ℕ)) (snapshots : Option (List (List ℕ))) (snapshot_bytes : List ℕ → Option (List ℕ)) (logs : Option (List (List ℕ))) (log_bytes : List ℕ → Option (List ℕ)) (upto : Upto) (output output' : Sink O) (faults faults' : Sink E) (result : Result ℕ NoMemory) : Type 0 where
  pub answer : Result Shown HistoryFault
  pub holds : Holds snapshots snapshot_bytes logs log_bytes upto answer
  pub outputs : OutputsShown written told upto answer output output' faults faults' result
