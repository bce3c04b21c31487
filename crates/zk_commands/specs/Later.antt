-- The transactions of a directory's logs after a zxid, each once.
use Rattle.std.specs.Prelude.{◌≡◌, ◌⊎◌, ◌+◌, ℕ, ℤ, pos, Bool, true, false, int_lt, List, [], ◌++◌, filter, map, take, Option, Some, None, Result, Ok, Err, Vec}
use Rattle.std.specs.Borrow.{Bor}
use Rattle.std.specs.Global.{Global}
use Rattle.zk_directory.specs.Chains.{history_of}
use Rattle.zk_directory.specs.declared.chain.Chain.{Chain}
use Rattle.zk_directory_state.specs.Attempts.{history_fault}
use Rattle.zk_directory_state.specs.Records.{first_reading}
use Rattle.zk_directory_state.specs.Logs.{AreGiven, IsUnread, bytes_of, logs_from}
use Rattle.zk_directory_state.specs.declared.fault.HistoryFault.{HistoryFault}
use Rattle.zk_directory_state.specs.declared.fault.HistoryFault.TheVariants as faults
use Rattle.zk_directory.specs.LogFiles.{IsLogFile}
use Rattle.zk_directory.specs.declared.file.FileEntry.{FileEntry}
use Rattle.zk_directory.specs.declared.file.LogFile.{LogFile}
use Rattle.zk_newer_records.specs.declared.newer_record.NewerRecord.{NewerRecord}
use Rattle.zk_directory_state.specs.Directories.{AreLogFiles, read_files}
use Rattle.zk_directory_state.specs.Joins.{Reading, read_entries, read_file}
use Rattle.zk_directory_state.specs.States.{txn_of}
use Rattle.zk_directory_state.specs.declared.restore_fault.DirectoryFault.{DirectoryFault}
use Rattle.zk_directory_state.specs.declared.restore_fault.RestoreFault.{RestoreFault}
use Rattle.zk_directory_state.specs.declared.restore_fault.RestoreFault.TheVariants as restore_faults
use Rattle.zk_table.specs.declared.txn.Txn.{Txn}

-- none is the empty tree
abbrev pub is_later : Option ℤ → Txn → Bool
is_later None txn = true
is_later (Some zxid) txn = int_lt zxid txn.zxid

-- all logs were read: their entries are joined from the zxid on, whose own may be the first
pub record AreLater (logs : List (Bor (List ℕ))) (zxid : Option ℤ) (txns : List Txn) : Type 0 where
  pub files : List LogFile
  pub of_logs : AreLogFiles logs files
  pub reading : Reading
  pub of_files : read_files (Ok (first_reading zxid)) files ≡ Ok reading
  pub later : txns ≡ filter (is_later zxid) (map txn_of reading.records)

-- the logs were read up to the fault
pub record BreaksLater (logs : List (Bor (List ℕ))) (logged : List ℤ) (zxid : Option ℤ) (fault : HistoryFault) : Type 0 where
  pub failed : DirectoryFault
  pub files : List LogFile
  pub of_logs : AreLogFiles (take (failed.log + 1) logs) files
  pub of_files : read_files (Ok (first_reading zxid)) files ≡ Err failed.fault
  pub is : fault ≡ history_fault failed (pos 0) logged

abbrev pub FindsLater : List (Bor (List ℕ)) → List ℤ → Option ℤ → Result (Vec Txn Global) HistoryFault → Type 0
FindsLater logs logged zxid (Ok txns) = AreLater logs zxid txns.items
FindsLater logs logged zxid (Err faults.NoMemory) = Unit {0}
FindsLater logs logged zxid (Err fault) = BreaksLater logs logged zxid fault

-- ---- the logs of a folder

-- from the one on in which they begin
abbrev pub logs_after : Option ℤ → List ℤ → List ℤ
logs_after None logged = logged
logs_after (Some zxid) logged = logs_from zxid logged

-- of these zxids in their names
pub record LaterIn (log_bytes : List ℕ → Option (List ℕ)) (logged : List ℤ) (zxid : Option ℤ) (answer : Result (Vec Txn Global) HistoryFault) : Type 0 where
  pub logs : List (Bor (List ℕ))
  pub given : AreGiven log_bytes (logs_after zxid logged) (map bytes_of logs)
  pub found : FindsLater logs (logs_after zxid logged) zxid answer

-- unless a file could not be read
abbrev pub FindsLaterIn : (List ℕ → Option (List ℕ)) → List ℤ → Option ℤ → Result (Vec Txn Global) HistoryFault → Type 0
FindsLaterIn log_bytes logged zxid (Ok txns) = LaterIn log_bytes logged zxid (Ok txns)
FindsLaterIn log_bytes logged zxid (Err fault) = IsUnread fault ⊎ LaterIn log_bytes logged zxid (Err fault)

-- ---- calls within

abbrev pub reading_at : Chain → List NewerRecord → Reading
reading_at chain records = record { history = history_of chain; records = records; window = None; is_over = false }

-- the transactions of the records that were taken are appended
abbrev pub Appends : (Reading → Result Reading RestoreFault) → Chain → List Txn → Chain → List Txn → Result (Unit {0}) RestoreFault → Type 0
Appends read old txns new txns' (Ok done) = (records : List NewerRecord) × (read (reading_at old []) ≡ Ok (reading_at new records)) × (txns' ≡ txns ++ map txn_of records)
Appends read old txns new txns' (Err restore_faults.NoMemory) = Unit {0}
Appends read old txns new txns' (Err fault) = read (reading_at old []) ≡ Err fault

abbrev pub AppendsEntries : List FileEntry → Chain → List Txn → Chain → List Txn → Result (Unit {0}) RestoreFault → Type 0
AppendsEntries entries old txns new txns' result = Appends (λ reading. read_entries (Ok reading) entries) old txns new txns' result

abbrev pub AppendsFile : LogFile → Chain → List Txn → Chain → List Txn → Result (Unit {0}) RestoreFault → Type 0
AppendsFile file old txns new txns' result = Appends (λ reading. read_file reading file) old txns new txns' result

abbrev pub AppendsLog : List ℕ → Chain → List Txn → Chain → List Txn → Result (Unit {0}) RestoreFault → Type 0
AppendsLog bytes old txns new txns' (Ok done) = (file : LogFile) × IsLogFile bytes file × AppendsFile file old txns new txns' (Ok done)
AppendsLog bytes old txns new txns' (Err restore_faults.NoMemory) = Unit {0}
AppendsLog bytes old txns new txns' (Err fault) = (file : LogFile) × IsLogFile bytes file × AppendsFile file old txns new txns' (Err fault)

-- logs were read up to a fault
abbrev pub FailsBy : List (Bor (List ℕ)) → Chain → ℕ → RestoreFault → Type 0
FailsBy logs old log restore_faults.NoMemory = Unit {0}
FailsBy logs old log fault = (files : List LogFile) × AreLogFiles (take (log + 1) logs) files × (read_files (Ok (reading_at old [])) files ≡ Err fault)

-- logs were read, up to the first fault
abbrev pub AppendsLogs : List (Bor (List ℕ)) → Chain → List Txn → List Txn → Result (Unit {0}) DirectoryFault → Type 0
AppendsLogs logs old txns txns' (Ok done) =
    (files : List LogFile) × AreLogFiles logs files × ((reading : Reading) × (read_files (Ok (reading_at old [])) files ≡ Ok reading) × (txns' ≡ txns ++ map txn_of reading.records))
AppendsLogs logs old txns txns' (Err failed) = FailsBy logs old failed.log failed.fault
