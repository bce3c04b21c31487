-- The objects of the files of a data directory: those of which `zk files` prints the lines.
use Rattle.std.specs.Prelude.{◌≡◌, ◌⊎◌, ℕ, ℤ, List, [], ◌∷◌, ◌++◌, map, Option, None, Result, Ok, Err, String}
use Rattle.std.specs.Global.{Global}
use Rattle.std.specs.String.{string_bytes}
use Rattle.zk_directory.specs.LogFiles.{IsLogFile}
use Rattle.zk_directory.specs.declared.file.LogFile.{LogFile}
use Rattle.zk_directory_state.specs.Files.{HoldsNone, last_after}
use Rattle.zk_directory_state.specs.Folders.{IsGiven}
use Rattle.zk_directory_state.specs.Logs.{AreUnreadFiles, IsUnreadIn}
use Rattle.zk_directory_state.specs.Names.{AreZxidsBy, log_name, log_zxid, snapshot_name, snapshot_zxid}
use Rattle.zk_directory_state.specs.Outcomes.{Rejects}
use Rattle.zk_directory_state.specs.declared.fault.HistoryFault.{HistoryFault}
use Rattle.zk_directory_state.specs.declared.fault.HistoryFault.TheVariants as faults
use Rattle.zk_json_files.specs.Logs.{AreLogLines}
use Rattle.zk_json_files.specs.Snapshots.{IsSnapshotLine}
use Rattle.zk_json_files.specs.Unread.{AreUnread}
use Rattle.zk_log_commands.specs.Telling.{Outputs}
use Rattle.zk_path.specs.declared.memory.NoMemory.{NoMemory}
use Rattle.zk_records.specs.declared.sink.Sink.{Sink}

-- ---- all files

-- the line of a snapshot, of the bytes that the folder gives
pub record AddsSnapshot (bytes_in : List ℕ → Option (List ℕ)) (zxid : ℤ) (line : List ℕ) : Type 0 where
  pub bytes : List ℕ
  pub given : IsGiven (bytes_in (snapshot_name zxid)) bytes
  pub is_line : IsSnapshotLine (snapshot_name zxid) zxid bytes line

-- the lines of these snapshots
abbrev pub AreSnapshots : (List ℕ → Option (List ℕ)) → List ℤ → List ℕ → Type 0
AreSnapshots bytes_in [] text = text ≡ []
AreSnapshots bytes_in (zxid ∷ zxids) text = (line : List ℕ) × (rest : List ℕ) × AddsSnapshot bytes_in zxid line × AreSnapshots bytes_in zxids rest × (text ≡ line ++ rest)

-- the lines of a log, and the last zxid after it
pub record AddsLog (bytes_in : List ℕ → Option (List ℕ)) (zxid : ℤ) (last : Option ℤ) (lines : List ℕ) (after : Option ℤ) : Type 0 where
  pub bytes : List ℕ
  pub file : LogFile
  pub given : IsGiven (bytes_in (log_name zxid)) bytes
  pub is_log : IsLogFile bytes file
  pub are_lines : AreLogLines (log_name zxid) last file lines
  pub after_it : after ≡ last_after last file.entries.items

-- the lines of these logs
abbrev pub AreLogs : (List ℕ → Option (List ℕ)) → List ℤ → Option ℤ → List ℕ → Type 0
AreLogs bytes_in [] last text = text ≡ []
AreLogs bytes_in (zxid ∷ zxids) last text = (lines : List ℕ) × (after : Option ℤ) × (rest : List ℕ) × AddsLog bytes_in zxid last lines after × AreLogs bytes_in zxids after rest × (text ≡ lines ++ rest)

-- The objects of the snapshots of a folder, and of the logs of a folder: by the names and the bytes
-- that these give. At the end those of files that are not read.
pub record AreObjects (snapshots : Option (List (List ℕ))) (snapshot_bytes : List ℕ → Option (List ℕ)) (logs : Option (List (List ℕ))) (log_bytes : List ℕ → Option (List ℕ)) (text : List ℕ) : Type 0 where
  pub snapshot_names : List (String Global)
  pub log_names : List (String Global)
  pub snapshot_zxids : List ℤ
  pub log_zxids : List ℤ
  pub snapshot_lines : List ℕ
  pub log_lines : List ℕ
  pub unread_lines : List ℕ
  pub snapshots_given : IsGiven snapshots (map string_bytes snapshot_names)
  pub logs_given : IsGiven logs (map string_bytes log_names)
  pub are_snapshots : AreZxidsBy (λ name. snapshot_zxid (string_bytes name)) snapshot_names snapshot_zxids
  pub are_logs : AreZxidsBy (λ name. log_zxid (string_bytes name)) log_names log_zxids
  pub snapshots_listed : AreSnapshots snapshot_bytes snapshot_zxids snapshot_lines
  pub logs_listed : AreLogs log_bytes log_zxids None log_lines
  pub unread_listed : AreUnread snapshot_names log_names unread_lines
  pub lines : text ≡ snapshot_lines ++ log_lines ++ unread_lines

-- the objects, or why there are none: there is no file, or one cannot be read
abbrev pub ListsObjects : Option (List (List ℕ)) → (List ℕ → Option (List ℕ)) → Option (List (List ℕ)) → (List ℕ → Option (List ℕ)) → Result (String Global) HistoryFault → Type 0
ListsObjects snapshots snapshot_bytes logs log_bytes (Ok text) = AreObjects snapshots snapshot_bytes logs log_bytes (string_bytes text)
ListsObjects snapshots snapshot_bytes logs log_bytes (Err fault) = (HoldsNone snapshots logs × (fault ≡ faults.Empty)) ⊎ IsUnreadIn snapshots snapshot_bytes logs log_bytes fault

abbrev pub OutputsObjects : {O E : Type 0} → (O → Option (List ℕ)) → (E → Option (List ℕ)) → Result (String Global) HistoryFault → Sink O → Sink O → Sink E → Sink E → Result ℕ NoMemory → Type 0
OutputsObjects written told (Ok text) output output' faults faults' result = Outputs written told (string_bytes text) output output' faults faults' result
OutputsObjects written told (Err fault) output output' faults faults' result = Rejects written told fault output output' faults faults' result

-- the objects are written, or the line of the fault that keeps the files from being listed
pub record TellsObjects {O E : Type 0} (written : O → Option (List ℕ)) (told : E → Option (List ℕ)) (snapshots : Option (List (List ℕ))) (snapshot_bytes : List ℕ → Option (List ℕ)) (logs : Option (List (List ℕ))) (log_bytes : List ℕ → Option (List ℕ)) (output output' : Sink O) (faults faults' : Sink E) (result : Result ℕ NoMemory) : Type 0 where
  pub answer : Result (String Global) HistoryFault
  pub lists : ListsObjects snapshots snapshot_bytes logs log_bytes answer
  pub outputs : OutputsObjects written told answer output output' faults faults' result

-- ---- calls within

abbrev pub PushesSnapshot : (List ℕ → Option (List ℕ)) → ℤ → List ℕ → List ℕ → Type 0
PushesSnapshot bytes_in zxid old new = (line : List ℕ) × AddsSnapshot bytes_in zxid line × (new ≡ old ++ line)

abbrev pub PushesLog : (List ℕ → Option (List ℕ)) → ℤ → Option ℤ → List ℕ → List ℕ → Option ℤ → Type 0
PushesLog bytes_in zxid last old new after = (lines : List ℕ) × AddsLog bytes_in zxid last lines after × (new ≡ old ++ lines)

abbrev pub AppendsSnapshots : (List ℕ → Option (List ℕ)) → List ℤ → List ℕ → List ℕ → Type 0
AppendsSnapshots bytes_in zxids old new = (lines : List ℕ) × AreSnapshots bytes_in zxids lines × (new ≡ old ++ lines)

abbrev pub AppendsLogs : (List ℕ → Option (List ℕ)) → List ℤ → Option ℤ → List ℕ → List ℕ → Type 0
AppendsLogs bytes_in zxids last old new = (lines : List ℕ) × AreLogs bytes_in zxids last lines × (new ≡ old ++ lines)

-- the lines of these snapshots and logs, and those of the other files with these names
abbrev pub LinesOf : (List ℕ → Option (List ℕ)) → (List ℕ → Option (List ℕ)) → List ℤ → List ℤ → List (String Global) → List (String Global) → Result (String Global) HistoryFault → Type 0
LinesOf snapshot_bytes log_bytes held logged snapshot_names log_names (Ok text) =
    (snapshot_lines : List ℕ) × (log_lines : List ℕ) × (unread_lines : List ℕ) × AreSnapshots snapshot_bytes held snapshot_lines × AreLogs log_bytes logged None log_lines × AreUnread snapshot_names log_names unread_lines
    × (string_bytes text ≡ snapshot_lines ++ log_lines ++ unread_lines)
LinesOf snapshot_bytes log_bytes held logged snapshot_names log_names (Err fault) = AreUnreadFiles snapshot_bytes log_bytes fault
