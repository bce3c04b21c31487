-- What `zk verify` writes.
use Rattle.std.specs.Prelude.{◌≡◌, ℕ, nat_lt, List, Option, Result, Ok, Err, Vec, if◌then◌else◌}
use Rattle.std.specs.Global.{Global}
use Rattle.zk_directory_state.specs.Outcomes.{Rejects}
use Rattle.zk_directory_state.specs.declared.fault.HistoryFault.{HistoryFault}
use Rattle.zk_log_commands.specs.Telling.{Outputs}
use Rattle.zk_log_commands.specs.Writing.{LeavesSink}
use Rattle.zk_path.specs.declared.memory.NoMemory.{NoMemory}
use Rattle.zk_records.specs.declared.sink.Sink.{Sink}
use Rattle.zk_verification.specs.Marks.{wrong_in}
use Rattle.zk_verification.specs.Reports.{IsReport}
use Rattle.zk_verification.specs.declared.mark.Mark.{Mark}
use Rattle.zk_verification.specs.Verifications.{FindsMarks}

-- the report is written; the status is 1 if something is wrong, or a write failed. An allocation
-- failure comes before any of it
abbrev pub OutputsReport : {O E : Type 0} → (O → Option (List ℕ)) → (E → Option (List ℕ)) → List Mark → Sink O → Sink O → Sink E → Sink E → Result ℕ NoMemory → Type 0
OutputsReport written told all output output' faults faults' (Ok status) =
    (text : List ℕ) × (put : ℕ) × IsReport all text × Outputs written told text output output' faults faults' (Ok put) × (status ≡ (if nat_lt 0 (wrong_in all) then 1 else put))
OutputsReport written told all output output' faults faults' (Err failed) = LeavesSink written output output' × LeavesSink told faults faults'

abbrev pub OutputsVerification : {O E : Type 0} → (O → Option (List ℕ)) → (E → Option (List ℕ)) → Result (Vec Mark Global) HistoryFault → Sink O → Sink O → Sink E → Sink E → Result ℕ NoMemory → Type 0
OutputsVerification written told (Ok all) output output' faults faults' result = OutputsReport written told all.items output output' faults faults' result
OutputsVerification written told (Err fault) output output' faults faults' result = Rejects written told fault output output' faults faults' result

-- what is wrong with a directory is written, or why nothing is said of it
pub record TellsVerification {O E : Type 0} (written : O → Option (List ℕ)) (told : E → Option (List ℕ)) (snapshots : Option (List (List ℕ))) (snapshot_bytes : List ℕ → Option (List ℕ)) (logs : Option (List (List ℕ))) (log_bytes : List ℕ → Option (List ℕ)) (output output' : Sink O) (faults faults' : Sink E) (result : Result ℕ NoMemory) : Type 0 where
  pub answer : Result (Vec Mark Global) HistoryFault
  pub finds : FindsMarks snapshots snapshot_bytes logs log_bytes answer
  pub outputs : OutputsVerification written told answer output output' faults faults' result
