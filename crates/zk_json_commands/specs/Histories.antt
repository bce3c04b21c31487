-- What `zk history --json` writes.
use Rattle.std.specs.Prelude.{◌≡◌, ℕ, Bool, List, [], ◌∷◌, ◌++◌, Option, Result, Ok, Err}
use Rattle.std.specs.String.{string_bytes}
use Rattle.zk_directory_state.specs.Notices.{OutputsNoticed}
use Rattle.zk_directory_state.specs.Ranges.{unbounded}
use Rattle.zk_directory_state.specs.Records.{Answers}
use Rattle.zk_directory_state.specs.declared.notices.Noticed.{Noticed}
use Rattle.zk_directory_state.specs.declared.fault.HistoryFault.{HistoryFault}
use Rattle.zk_incidents.specs.FirstOwners.{AreFirstOwners}
use Rattle.zk_incidents.specs.HistoryReports.{HasNoHistory}
use Rattle.zk_incidents.specs.Histories.{is_expiry, op_word, seen}
use Rattle.zk_incidents.specs.Owners.{Owned, owned_after}
use Rattle.zk_json.specs.Incidents.{IsHistoryLine}
use Rattle.zk_newer_records.specs.declared.newer_record.NewerRecord.{NewerRecord}
use Rattle.zk_path.specs.declared.memory.NoMemory.{NoMemory}
use Rattle.zk_records.specs.declared.sink.Sink.{Sink}
use Rattle.zk_json_commands.specs.declared.history_lines.HistoryLines.{HistoryLines}

-- a record with the word that the text has for it, and whether it closes an expired session
abbrev pub IsRecordHistory : List (List ℕ) → NewerRecord → List ℕ → Type 0
IsRecordHistory paths newer line = IsHistoryLine paths (op_word newer.txn.op newer.form) (is_expiry newer.txn.cxid newer.txn.op) newer.txn line

-- a line for a record that creates, changes or deletes nodes at these paths
abbrev pub IsLineBy : List (List ℕ) → NewerRecord → List ℕ → Type 0
IsLineBy [] newer line = line ≡ []
IsLineBy (path ∷ paths) newer line = IsRecordHistory (path ∷ paths) newer line

-- the nodes at a path, and below it, decide whether there is one
abbrev pub IsLine : List ℕ → Bool → Owned → NewerRecord → List ℕ → Type 0
IsLine root below owned newer line = IsLineBy (seen root below owned newer) newer line

-- of records in order, after which the owners are known so far
abbrev pub IsHistoryFrom : List ℕ → Bool → Owned → List NewerRecord → List ℕ → Type 0
IsHistoryFrom root below owned [] text = text ≡ []
IsHistoryFrom root below owned (newer ∷ records) text =
    (line : List ℕ) × (rest : List ℕ) × IsLine root below owned newer line × IsHistoryFrom root below (owned_after owned newer) records rest × (text ≡ line ++ rest)

-- of the directory's records, after the owners in its first snapshot, and the notice
abbrev pub IsHistoryIn : List ℕ → Bool → Option (List (List ℕ)) → (List ℕ → Option (List ℕ)) → Option (List (List ℕ)) → (List ℕ → Option (List ℕ)) → List ℕ → List ℕ → Type 0
IsHistoryIn root below snapshots snapshot_bytes logs log_bytes text notice =
    (records : List NewerRecord) × Answers unbounded snapshots logs log_bytes records notice × ((owned : Owned) × AreFirstOwners snapshots snapshot_bytes owned × IsHistoryFrom root below owned records text)

abbrev pub FindsHistory : List ℕ → Bool → Option (List (List ℕ)) → (List ℕ → Option (List ℕ)) → Option (List (List ℕ)) → (List ℕ → Option (List ℕ)) → Result Noticed HistoryFault → Type 0
FindsHistory root below snapshots snapshot_bytes logs log_bytes (Ok noticed) = IsHistoryIn root below snapshots snapshot_bytes logs log_bytes (string_bytes noticed.text) (string_bytes noticed.notices)
FindsHistory root below snapshots snapshot_bytes logs log_bytes (Err fault) = HasNoHistory snapshots snapshot_bytes logs log_bytes fault

-- the history of a node is written, or why there is none
pub record TellsHistory {O E : Type 0} (written : O → Option (List ℕ)) (told : E → Option (List ℕ)) (root : List ℕ) (below : Bool) (snapshots : Option (List (List ℕ))) (snapshot_bytes : List ℕ → Option (List ℕ)) (logs : Option (List (List ℕ))) (log_bytes : List ℕ → Option (List ℕ)) (output output' : Sink O) (faults faults' : Sink E) (result : Result ℕ NoMemory) : Type 0 where
  pub answer : Result Noticed HistoryFault
  pub finds : FindsHistory root below snapshots snapshot_bytes logs log_bytes answer
  pub outputs : OutputsNoticed written told answer output output' faults faults' result

-- ---- calls within

abbrev pub AppendsRecordHistory : List (List ℕ) → NewerRecord → List ℕ → List ℕ → Type 0
AppendsRecordHistory paths newer old new = (line : List ℕ) × IsRecordHistory paths newer line × (new ≡ old ++ line)

abbrev pub AppendsLineBy : List (List ℕ) → NewerRecord → List ℕ → List ℕ → Type 0
AppendsLineBy paths newer old new = (line : List ℕ) × IsLineBy paths newer line × (new ≡ old ++ line)

abbrev pub AppendsLine : List ℕ → Bool → Owned → NewerRecord → List ℕ → List ℕ → Type 0
AppendsLine root below owned newer old new = (line : List ℕ) × IsLine root below owned newer line × (new ≡ old ++ line)

pub record Follows (old : HistoryLines) (newer : NewerRecord) (new : HistoryLines) : Type 0 where
  pub scope : new.scope ≡ old.scope
  pub owners : new.owners ≡ owned_after old.owners newer
  pub line : AppendsLine (string_bytes old.scope.root) old.scope.below old.owners newer (string_bytes old.text) (string_bytes new.text)
