-- What is written to the output and to standard error, by the status.
use Rattle.std.specs.Prelude.{◌≡◌, ◌⊎◌, ℕ, List, Option, Result, Ok, Err, codes}
use Rattle.zk_directory_state.specs.Histories.{Holds}
use Rattle.zk_directory_state.specs.Notices.{OutputsWith, notices_of}
use Rattle.zk_directory_state.specs.Outcomes.{Rejects}
use Rattle.zk_directory_state.specs.declared.fault.HistoryFault.{HistoryFault}
use Rattle.zk_directory_state.specs.declared.history.Shown.{Shown}
use Rattle.zk_directory_state.specs.declared.upto.Upto.{Upto}
use Rattle.zk_log_commands.specs.Telling.{GivesUp, Told}
use Rattle.zk_log_commands.specs.Writing.{LeavesSink}
use Rattle.zk_mend.specs.Digests.{Owners}
use Rattle.zk_path.specs.declared.memory.NoMemory.{NoMemory}
use Rattle.zk_records.specs.declared.sink.Sink.{Sink}
use Rattle.zk_snapshot.specs.Snapshots.{IsContents, IsSnapshotOf}
use Rattle.zk_snapshot.specs.declared.snapshot.Snapshot.{Snapshot}
use Rattle.zk_snapshot_command.specs.DirectoryOwners.{AreOwnersIn}
use Rattle.zk_stored_owners.specs.StoredOwners.{snapshot_with}

-- all bytes of the snapshot and then the notices, or a part of the bytes if the output or an allocation failed
pub record OutputsBytes {O E : Type 0} (written : O → Option (List ℕ)) (told : E → Option (List ℕ)) (snapshot : Snapshot) (notices : List ℕ) (output output' : Sink O) (faults faults' : Sink E) (result : Result ℕ NoMemory) : Type 0 where
  pub bytes : List ℕ
  pub of_snapshot : IsSnapshotOf bytes snapshot
  pub outputs : OutputsWith written told bytes notices output output' faults faults' result

-- a length or a number has no field in a snapshot, which has no bytes then
pub record IsLong {O E : Type 0} (written : O → Option (List ℕ)) (told : E → Option (List ℕ)) (snapshot : Snapshot) (output output' : Sink O) (faults faults' : Sink E) (result : Result ℕ NoMemory) : Type 0 where
  pub long : ¬ IsContents snapshot.contents
  pub status : result ≡ Ok 1
  pub no_byte : LeavesSink written output output'
  pub line : Told told faults faults' (codes "zk: long\n")

-- or an allocation failed before the first byte
abbrev pub OutputsSnapshot : {O E : Type 0} → (O → Option (List ℕ)) → (E → Option (List ℕ)) → Snapshot → List ℕ → Sink O → Sink O → Sink E → Sink E → Result ℕ NoMemory → Type 0
OutputsSnapshot written told snapshot notices output output' faults faults' result =
    OutputsBytes written told snapshot notices output output' faults faults' result ⊎ (IsLong written told snapshot output output' faults faults' result ⊎ GivesUp written told output output' faults faults' result)

-- the state that the directory proves, with the owners that a server stores, and the notices of `zk show`
pub record OutputsShown {O E : Type 0} (written : O → Option (List ℕ)) (told : E → Option (List ℕ)) (snapshot_bytes : List ℕ → Option (List ℕ)) (logs : Option (List (List ℕ))) (log_bytes : List ℕ → Option (List ℕ)) (upto : Upto) (shown : Shown) (output output' : Sink O) (faults faults' : Sink E) (result : Result ℕ NoMemory) : Type 0 where
  pub owners : Owners
  pub are_owners : AreOwnersIn snapshot_bytes logs log_bytes shown owners
  pub outputs : OutputsSnapshot written told (snapshot_with owners shown.restored.table.state) (notices_of upto shown.restored) output output' faults faults' result

-- or the line of the fault, and no byte
abbrev pub OutputsState : {O E : Type 0} → (O → Option (List ℕ)) → (E → Option (List ℕ)) → (List ℕ → Option (List ℕ)) → Option (List (List ℕ)) → (List ℕ → Option (List ℕ)) → Upto → Result Shown HistoryFault → Sink O → Sink O → Sink E → Sink E → Result ℕ NoMemory → Type 0
OutputsState written told snapshot_bytes logs log_bytes upto (Ok shown) output output' faults faults' result = OutputsShown written told snapshot_bytes logs log_bytes upto shown output output' faults faults' result
OutputsState written told snapshot_bytes logs log_bytes upto (Err fault) output output' faults faults' result = Rejects written told fault output output' faults faults' result

-- the snapshot of a directory's state is written
pub record TellsSnapshot {O E : Type 0} (written : O → Option (List ℕ)) (told : E → Option (List ℕ)) (snapshots : Option (List (List ℕ))) (snapshot_bytes : List ℕ → Option (List ℕ)) (logs : Option (List (List ℕ))) (log_bytes : List ℕ → Option (List ℕ)) (upto : Upto) (output output' : Sink O) (faults faults' : Sink E) (result : Result ℕ NoMemory) : Type 0 where
  pub answer : Result Shown HistoryFault
  pub holds : Holds snapshots snapshot_bytes logs log_bytes upto answer
  pub outputs : OutputsState written told snapshot_bytes logs log_bytes upto answer output output' faults faults' result
