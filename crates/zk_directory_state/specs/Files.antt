-- The lines of the files of a data directory: definitions of this project.
use Rattle.std.specs.Prelude.{◌≡◌, ◌⊎◌, ◌+◌, ◌-◌, ℕ, ℤ, Bool, ◌&&◌, not, int_lt, List, [], ◌∷◌, ◌++◌, length, map, slice_get, Option, Some, None, Result, Ok, Err, String, if◌then◌else◌, codes}
use Rattle.std.specs.Fmt.{decimal}
use Rattle.std.specs.Global.{Global}
use Rattle.std.specs.List.{flat_map}
use Rattle.std.specs.String.{string_bytes}
use Rattle.zk_replay.specs.Bases.{exact_from}
use Rattle.zk_replay.specs.declared.exact.Exact.{Exact}
use Rattle.zk_directory.specs.Continuing.{continues}
use Rattle.zk_directory_state.specs.Folders.{IsGiven}
use Rattle.zk_directory_state.specs.Logs.{AreUnreadFiles, IsUnreadIn}
use Rattle.zk_directory_state.specs.Names.{AreZxidsBy, snapshot_name, snapshot_zxid, log_name, log_zxid}
use Rattle.zk_directory_state.specs.UnreadFiles.{unread_log, unread_snapshot}
use Rattle.zk_directory_state.specs.declared.fault.HistoryFault.{HistoryFault}
use Rattle.zk_directory_state.specs.declared.fault.HistoryFault.TheVariants as faults
use Rattle.zk_format.specs.Spelling.{id_digits}
use Rattle.zk_jute.specs.declared.fault.JuteFault.{JuteFault}
use Rattle.zk_log.specs.declared.loaded.Ending.{Ending}
use Rattle.zk_log.specs.declared.loaded.Ending.TheVariants.{Whole, Padding, Torn}
use Rattle.zk_directory.specs.LogFiles.{IsLogFile}
use Rattle.zk_directory.specs.declared.file.FileEntry.{FileEntry}
use Rattle.zk_directory.specs.declared.file.LogFile.{LogFile}
use Rattle.zk_directory.specs.declared.file.LogFileFault.{LogFileFault}
use Rattle.zk_directory.specs.declared.file.LogFileFault.TheVariants as log_faults
use Rattle.zk_snapshot.specs.Faults.{fault_of}
use Rattle.zk_snapshot.specs.Reading.{all_of}
use Rattle.zk_snapshot.specs.declared.fault.SnapshotFault.{SnapshotFault}
use Rattle.zk_snapshot.specs.declared.fault.SnapshotFault.TheVariants as snapshot_faults
use Rattle.zk_snapshot.specs.declared.snapshot.Snapshot.{Snapshot}

-- ---- a snapshot

abbrev pub fault_word : SnapshotFault → List ℕ
fault_word snapshot_faults.Header = codes "S1"
fault_word snapshot_faults.Short = codes "S2"
fault_word snapshot_faults.Field = codes "S3"
fault_word snapshot_faults.Checksum = codes "S4"
fault_word snapshot_faults.Trailing = codes "S5"
fault_word snapshot_faults.Compressed = codes "S6"
fault_word snapshot_faults.NoMemory = codes "G8"

-- the zxid from which a replay is exact
abbrev pub exact_text : Exact → List ℕ
exact_text exact = id_digits exact.zxid ++ (if exact.is_told then codes "\n" else codes " or later\n")

unfoldable pub contents_text : ℤ → Snapshot → List ℕ
contents_text zxid snapshot =
    codes " nodes " ++ decimal (length snapshot.contents.nodes)
    ++ codes " sessions " ++ decimal (length snapshot.contents.leases)
    ++ codes " exact " ++ exact_text (exact_from snapshot zxid)

abbrev pub rejected_text : SnapshotFault → List ℕ
rejected_text fault = 32 ∷ fault_word fault ++ codes "\n"

-- what the bytes hold, or the fault of the first field that can't be read
abbrev pub read_text : ℤ → List ℕ → Result Snapshot JuteFault → List ℕ
read_text zxid bytes (Ok snapshot) = contents_text zxid snapshot
read_text zxid bytes (Err field) = rejected_text (fault_of bytes field)

abbrev pub snapshot_line : ℤ → List ℕ → List ℕ
snapshot_line zxid bytes = snapshot_name zxid ++ read_text zxid bytes (all_of bytes)

-- ---- a log

abbrev pub ends_by : Option FileEntry → Option FileEntry → List ℕ
ends_by (Some first) (Some last) = 32 ∷ id_digits first.newer.txn.zxid ++ 32 ∷ id_digits last.newer.txn.zxid
ends_by first last = []

-- the first and the last zxid
abbrev pub ends_text : List FileEntry → List ℕ
ends_text entries = ends_by (slice_get entries 0) (slice_get entries (length entries - 1))

-- the number of records, and the first and the last zxid
abbrev pub span_text : List FileEntry → List ℕ
span_text entries = codes " records " ++ decimal (length entries) ++ ends_text entries

-- how the log ends, or why it is rejected
abbrev pub outcome_text : Result Ending LogFileFault → List ℕ
outcome_text (Ok Whole) = codes " end whole"
outcome_text (Ok Padding) = codes " end padding"
outcome_text (Ok (Torn at)) = codes " end torn " ++ decimal at
outcome_text (Err log_faults.Header) = codes " G1"
outcome_text (Err (log_faults.Checksum at)) = codes " G2 " ++ decimal at
outcome_text (Err (log_faults.Record at)) = codes " G3 " ++ decimal at
outcome_text (Err (log_faults.Order at)) = codes " G4 " ++ decimal at
outcome_text (Err (log_faults.TooLong at)) = codes " G5 " ++ decimal at

-- transactions are missing between these two
abbrev pub has_gap : ℤ → ℤ → Bool
has_gap last zxid = int_lt last zxid && not (continues last zxid)

abbrev pub between_text : ℤ → ℤ → List ℕ
between_text last zxid = codes " gap" ++ 32 ∷ id_digits last ++ 32 ∷ id_digits zxid

abbrev pub gap_text : Option ℤ → ℤ → List ℕ
gap_text None zxid = []
gap_text (Some last) zxid = if has_gap last zxid then between_text last zxid else []

-- the last zxid, with one more
abbrev pub later_of : Option ℤ → ℤ → Option ℤ
later_of None zxid = Some zxid
later_of (Some last) zxid = if int_lt zxid last then Some last else Some zxid

-- each gap among records, the earlier ones of which end with a zxid
abbrev pub gaps_text : Option ℤ → List FileEntry → List ℕ
gaps_text last [] = []
gaps_text last (entry ∷ entries) = gap_text last entry.newer.txn.zxid ++ gaps_text (later_of last entry.newer.txn.zxid) entries

abbrev pub last_after : Option ℤ → List FileEntry → Option ℤ
last_after last [] = last
last_after last (entry ∷ entries) = last_after (later_of last entry.newer.txn.zxid) entries

-- the line without its gaps
unfoldable pub log_head : ℤ → LogFile → List ℕ
log_head zxid file = log_name zxid ++ span_text file.entries.items ++ outcome_text file.outcome

unfoldable pub log_line : ℤ → Option ℤ → LogFile → List ℕ
log_line zxid last file = log_head zxid file ++ gaps_text last file.entries.items ++ codes "\n"

-- ---- all files

-- of snapshots, and then of logs
abbrev pub unread_lines : List (String Global) → List (String Global) → List ℕ
unread_lines snapshot_names log_names = flat_map (λ name. unread_snapshot (string_bytes name)) snapshot_names ++ flat_map (λ name. unread_log (string_bytes name)) log_names

-- one line more, of the bytes that the folder gives
pub record AddsSnapshot (bytes_in : List ℕ → Option (List ℕ)) (zxid : ℤ) (line : List ℕ) : Type 0 where
  pub bytes : List ℕ
  pub given : IsGiven (bytes_in (snapshot_name zxid)) bytes
  pub line_of : line ≡ snapshot_line zxid bytes

-- the lines of these snapshots
abbrev pub AreSnapshotLines : (List ℕ → Option (List ℕ)) → List ℤ → List ℕ → Type 0
AreSnapshotLines bytes_in [] text = text ≡ []
AreSnapshotLines bytes_in (zxid ∷ zxids) text = (line : List ℕ) × (rest : List ℕ) × AddsSnapshot bytes_in zxid line × AreSnapshotLines bytes_in zxids rest × (text ≡ line ++ rest)

-- one line more, and the last zxid after it
pub record AddsLog (bytes_in : List ℕ → Option (List ℕ)) (zxid : ℤ) (last : Option ℤ) (line : List ℕ) (after : Option ℤ) : Type 0 where
  pub bytes : List ℕ
  pub file : LogFile
  pub given : IsGiven (bytes_in (log_name zxid)) bytes
  pub is_log : IsLogFile bytes file
  pub line_of : line ≡ log_line zxid last file
  pub after_it : after ≡ last_after last file.entries.items

-- the lines of these logs
abbrev pub AreLogLines : (List ℕ → Option (List ℕ)) → List ℤ → Option ℤ → List ℕ → Type 0
AreLogLines bytes_in [] last text = text ≡ []
AreLogLines bytes_in (zxid ∷ zxids) last text = (line : List ℕ) × (after : Option ℤ) × (rest : List ℕ) × AddsLog bytes_in zxid last line after × AreLogLines bytes_in zxids after rest × (text ≡ line ++ rest)

-- The lines of the snapshots of a folder, and of the logs of a folder: by the names and the bytes
-- that these give. At the end those of files that are not read.
pub record IsFilesText (snapshots : Option (List (List ℕ))) (snapshot_bytes : List ℕ → Option (List ℕ)) (logs : Option (List (List ℕ))) (log_bytes : List ℕ → Option (List ℕ)) (text : List ℕ) : Type 0 where
  pub snapshot_names : List (String Global)
  pub log_names : List (String Global)
  pub snapshot_zxids : List ℤ
  pub log_zxids : List ℤ
  pub snapshot_lines : List ℕ
  pub log_lines : List ℕ
  pub snapshots_given : IsGiven snapshots (map string_bytes snapshot_names)
  pub logs_given : IsGiven logs (map string_bytes log_names)
  pub are_snapshots : AreZxidsBy (λ name. snapshot_zxid (string_bytes name)) snapshot_names snapshot_zxids
  pub are_logs : AreZxidsBy (λ name. log_zxid (string_bytes name)) log_names log_zxids
  pub snapshots_listed : AreSnapshotLines snapshot_bytes snapshot_zxids snapshot_lines
  pub logs_listed : AreLogLines log_bytes log_zxids None log_lines
  pub lines : text ≡ snapshot_lines ++ log_lines ++ unread_lines snapshot_names log_names

-- there is no snapshot and no log among the names that the folders give
pub record HoldsNone (snapshots logs : Option (List (List ℕ))) : Type 0 where
  pub snapshot_names : List (String Global)
  pub log_names : List (String Global)
  pub snapshots_given : IsGiven snapshots (map string_bytes snapshot_names)
  pub logs_given : IsGiven logs (map string_bytes log_names)
  pub snapshot_zxids : List ℤ
  pub log_zxids : List ℤ
  pub are_snapshots : AreZxidsBy (λ name. snapshot_zxid (string_bytes name)) snapshot_names snapshot_zxids
  pub are_logs : AreZxidsBy (λ name. log_zxid (string_bytes name)) log_names log_zxids
  pub none : length snapshot_zxids + length log_zxids ≡ 0

-- the lines, or why there are none: there is no file, or one cannot be read
abbrev pub ListsFiles : Option (List (List ℕ)) → (List ℕ → Option (List ℕ)) → Option (List (List ℕ)) → (List ℕ → Option (List ℕ)) → Result (String Global) HistoryFault → Type 0
ListsFiles snapshots snapshot_bytes logs log_bytes (Ok text) = IsFilesText snapshots snapshot_bytes logs log_bytes (string_bytes text)
ListsFiles snapshots snapshot_bytes logs log_bytes (Err fault) = (HoldsNone snapshots logs × (fault ≡ faults.Empty)) ⊎ IsUnreadIn snapshots snapshot_bytes logs log_bytes fault

-- ---- its parts

-- a text with one line more
abbrev pub PushesSnapshot : (List ℕ → Option (List ℕ)) → ℤ → List ℕ → List ℕ → Type 0
PushesSnapshot bytes_in zxid old new = (line : List ℕ) × AddsSnapshot bytes_in zxid line × (new ≡ old ++ line)

abbrev pub PushesLog : (List ℕ → Option (List ℕ)) → ℤ → Option ℤ → List ℕ → List ℕ → Option ℤ → Type 0
PushesLog bytes_in zxid last old new after = (line : List ℕ) × AddsLog bytes_in zxid last line after × (new ≡ old ++ line)

-- a text with these lines more
abbrev pub AddsSnapshots : (List ℕ → Option (List ℕ)) → List ℤ → List ℕ → List ℕ → Type 0
AddsSnapshots bytes_in zxids old new = (lines : List ℕ) × AreSnapshotLines bytes_in zxids lines × (new ≡ old ++ lines)

abbrev pub AddsLogs : (List ℕ → Option (List ℕ)) → List ℤ → Option ℤ → List ℕ → List ℕ → Type 0
AddsLogs bytes_in zxids last old new = (lines : List ℕ) × AreLogLines bytes_in zxids last lines × (new ≡ old ++ lines)

-- the lines of these snapshots and logs, and those of the other files with these names
abbrev pub LinesOf : (List ℕ → Option (List ℕ)) → (List ℕ → Option (List ℕ)) → List ℤ → List ℤ → List (String Global) → List (String Global) → Result (String Global) HistoryFault → Type 0
LinesOf snapshot_bytes log_bytes held logged snapshot_names log_names (Ok text) =
    (snapshot_lines : List ℕ) × (log_lines : List ℕ) × AreSnapshotLines snapshot_bytes held snapshot_lines × AreLogLines log_bytes logged None log_lines × (string_bytes text ≡ snapshot_lines ++ log_lines ++ unread_lines snapshot_names log_names)
LinesOf snapshot_bytes log_bytes held logged snapshot_names log_names (Err fault) = AreUnreadFiles snapshot_bytes log_bytes fault
