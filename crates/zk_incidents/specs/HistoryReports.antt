-- What `zk history` writes.
use Rattle.std.specs.Prelude.{◌⊎◌, ℕ, Bool, List, Option, Result, Ok, Err}
use Rattle.std.specs.String.{string_bytes}
use Rattle.zk_directory_state.specs.Logs.{IsUnreadSnapshot}
use Rattle.zk_directory_state.specs.Notices.{OutputsNoticed}
use Rattle.zk_directory_state.specs.Ranges.{unbounded}
use Rattle.zk_directory_state.specs.Records.{Answers, HaveNoAnswer}
use Rattle.zk_directory_state.specs.declared.notices.Noticed.{Noticed}
use Rattle.zk_directory_state.specs.declared.fault.HistoryFault.{HistoryFault}
use Rattle.zk_incidents.specs.FirstOwners.{AreFirstOwners}
use Rattle.zk_incidents.specs.Histories.{IsHistoryFrom}
use Rattle.zk_incidents.specs.Owners.{Owned}
use Rattle.zk_newer_records.specs.declared.newer_record.NewerRecord.{NewerRecord}
use Rattle.zk_path.specs.declared.memory.NoMemory.{NoMemory}
use Rattle.zk_records.specs.declared.sink.Sink.{Sink}

-- the lines of the directory's records, after the owners in its first snapshot, and the notice
abbrev pub IsHistoryIn : List ℕ → Bool → Option (List (List ℕ)) → (List ℕ → Option (List ℕ)) → Option (List (List ℕ)) → (List ℕ → Option (List ℕ)) → List ℕ → List ℕ → Type 0
IsHistoryIn root below snapshots snapshot_bytes logs log_bytes text notice =
    (records : List NewerRecord) × Answers unbounded snapshots logs log_bytes records notice × ((owned : Owned) × AreFirstOwners snapshots snapshot_bytes owned × IsHistoryFrom root below owned records text)

-- why there are none: a snapshot cannot be read, or the logs have no answer
abbrev pub HasNoHistory : Option (List (List ℕ)) → (List ℕ → Option (List ℕ)) → Option (List (List ℕ)) → (List ℕ → Option (List ℕ)) → HistoryFault → Type 0
HasNoHistory snapshots snapshot_bytes logs log_bytes fault = IsUnreadSnapshot snapshot_bytes fault ⊎ HaveNoAnswer unbounded snapshots logs log_bytes fault

abbrev pub FindsHistory : List ℕ → Bool → Option (List (List ℕ)) → (List ℕ → Option (List ℕ)) → Option (List (List ℕ)) → (List ℕ → Option (List ℕ)) → Result Noticed HistoryFault → Type 0
FindsHistory root below snapshots snapshot_bytes logs log_bytes (Ok noticed) = IsHistoryIn root below snapshots snapshot_bytes logs log_bytes (string_bytes noticed.text) (string_bytes noticed.notices)
FindsHistory root below snapshots snapshot_bytes logs log_bytes (Err fault) = HasNoHistory snapshots snapshot_bytes logs log_bytes fault

-- the history of a node is written, or why there is none
pub record TellsHistory {O E : Type 0} (written : O → Option (List ℕ)) (told : E → Option (List ℕ)) (root : List ℕ) (below : Bool) (snapshots : Option (List (List ℕ))) (snapshot_bytes : List ℕ → Option (List ℕ)) (logs : Option (List (List ℕ))) (log_bytes : List ℕ → Option (List ℕ)) (output output' : Sink O) (faults faults' : Sink E) (result : Result ℕ NoMemory) : Type 0 where
  pub answer : Result Noticed HistoryFault
  pub finds : FindsHistory root below snapshots snapshot_bytes logs log_bytes answer
  pub outputs : OutputsNoticed written told answer output output' faults faults' result
