-- What one snapshot of a directory leads to.
use Rattle.std.specs.Prelude.{◌≡◌, ◌⊎◌, ℕ, ℤ, pos, Bool, true, false, List, map, slice_get, Option, Some, None, Result, Ok, Err}
use Rattle.std.specs.Borrow.{Bor}
use Rattle.zk_replay.specs.Bases.{exact_from, snapshot_fault}
use Rattle.zk_replay.specs.declared.exact.Exact.{Exact}
use Rattle.zk_replay.specs.declared.fault.BaseFault.{BaseFault}
use Rattle.zk_replay.specs.declared.fault.BaseFault.TheVariants as base_faults
use Rattle.zk_directory_state.specs.Logs.{AreGiven, AreUnreadFiles, IsUnreadLog, bytes_of, logs_from}
use Rattle.zk_directory_state.specs.declared.attempt.Attempt.{Attempt}
use Rattle.zk_directory_state.specs.declared.attempt.Attempt.TheVariants.{Serves, Passed, Early}
use Rattle.zk_directory_state.specs.Folders.{IsGiven}
use Rattle.zk_directory_state.specs.Names.{snapshot_name}
use Rattle.zk_directory_state.specs.declared.fault.HistoryFault.{HistoryFault}
use Rattle.zk_directory_state.specs.declared.fault.HistoryFault.TheVariants as faults
use Rattle.zk_directory_state.specs.declared.fault.PassedFault.{PassedFault}
use Rattle.zk_directory_state.specs.declared.fault.PassedFault.TheVariants as passed
use Rattle.zk_jute.specs.declared.fault.JuteFault.{JuteFault}
use Rattle.zk_directory_state.specs.Directories.{IsRestored}
use Rattle.zk_directory_state.specs.Windows.{IsWindowEnd}
use Rattle.zk_directory_state.specs.declared.restored_directory.Restored.{Restored}
use Rattle.zk_directory_state.specs.declared.restore_fault.DirectoryFault.{DirectoryFault}
use Rattle.zk_directory_state.specs.declared.restore_fault.RestoreFault.{RestoreFault}
use Rattle.zk_directory_state.specs.declared.restore_fault.RestoreFault.TheVariants as restore_faults
use Rattle.zk_directory_state.specs.declared.restoration.Base.TheVariants as bases
use Rattle.zk_snapshot.specs.Faults.{fault_of}
use Rattle.zk_snapshot.specs.Reading.{all_of}
use Rattle.zk_snapshot.specs.declared.fault.SnapshotFault.{SnapshotFault}
use Rattle.zk_snapshot.specs.declared.fault.SnapshotFault.TheVariants as snapshot_faults
use Rattle.zk_snapshot.specs.declared.snapshot.Contents.{Contents}
use Rattle.zk_snapshot.specs.declared.snapshot.Snapshot.{Snapshot}

-- ---- faults, with the files that they are about

-- the zxid in the name of a log, or 0
abbrev pub zxid_or_none : Option ℤ → ℤ
zxid_or_none None = pos 0
zxid_or_none (Some zxid) = zxid

abbrev pub log_at : List ℤ → ℕ → ℤ
log_at logged place = zxid_or_none (slice_get logged place)

abbrev pub fault_by : ℤ → ℤ → RestoreFault → HistoryFault
fault_by snapshot log (restore_faults.Purged first) = faults.Purged first
fault_by snapshot log (restore_faults.Gap from to) = faults.Gap from to
fault_by snapshot log (restore_faults.Differs at) = faults.Differs log at
fault_by snapshot log (restore_faults.Short exact) = faults.Short snapshot exact
fault_by snapshot log (restore_faults.Early exact) = faults.Early snapshot exact
fault_by snapshot log (restore_faults.Log fault) = faults.Log log fault
fault_by snapshot log restore_faults.Tree = faults.Snapshot snapshot passed.Tree
fault_by snapshot log restore_faults.Access = faults.Snapshot snapshot passed.Access
fault_by snapshot log restore_faults.NoMemory = faults.NoMemory

-- of a restoration from a snapshot and these logs
abbrev pub history_fault : DirectoryFault → ℤ → List ℤ → HistoryFault
history_fault failed snapshot logged = fault_by snapshot (log_at logged failed.log) failed.fault

-- why a snapshot that cannot be read is passed over
abbrev pub passed_fault : SnapshotFault → Option PassedFault
passed_fault snapshot_faults.Header = Some passed.Header
passed_fault snapshot_faults.Short = Some passed.Short
passed_fault snapshot_faults.Field = Some passed.Field
passed_fault snapshot_faults.Checksum = Some passed.Checksum
passed_fault snapshot_faults.Trailing = Some passed.Trailing
passed_fault snapshot_faults.Compressed = Some passed.Compressed
passed_fault snapshot_faults.NoMemory = None

abbrev pub passed_by : Option PassedFault → Result Attempt HistoryFault
passed_by None = Err faults.NoMemory
passed_by (Some fault) = Ok (Passed fault)

-- ---- a snapshot that was read

-- from which zxid on it is exact; if the file does not state it, the logs show it
abbrev pub IsExactBy : Bool → Snapshot → ℤ → List (Bor (List ℕ)) → Exact → Type 0
IsExactBy true snapshot zxid logs exact = exact ≡ exact_from snapshot zxid
IsExactBy false snapshot zxid logs exact = (exact.is_told ≡ false) × (snapshot_fault snapshot.contents ≡ None) × IsWindowEnd snapshot.contents zxid (exact_from snapshot zxid).zxid logs exact.zxid

abbrev pub IsExact : Snapshot → ℤ → List (Bor (List ℕ)) → Exact → Type 0
IsExact snapshot zxid logs exact = IsExactBy (exact_from snapshot zxid).is_told snapshot zxid logs exact

-- a snapshot that leads to no state is passed over, and one that is exact too late is early
abbrev pub attempt_of : DirectoryFault → ℤ → List ℤ → RestoreFault → Result Attempt HistoryFault
attempt_of failed zxid logged (restore_faults.Early exact) = Ok (Early exact)
attempt_of failed zxid logged restore_faults.Tree = Ok (Passed passed.Tree)
attempt_of failed zxid logged restore_faults.Access = Ok (Passed passed.Access)
attempt_of failed zxid logged fault = Err (history_fault failed zxid logged)

abbrev pub attempt_by : Exact → ℤ → List ℤ → Result Restored DirectoryFault → Result Attempt HistoryFault
attempt_by exact zxid logged (Ok restored) = Ok (Serves restored exact)
attempt_by exact zxid logged (Err failed) = attempt_of failed zxid logged failed.fault

-- the state is restored from it and these logs
pub record IsTried (snapshot : Snapshot) (zxid : ℤ) (upto : Option ℤ) (logged : List ℤ) (logs : List (Bor (List ℕ))) (answer : Result Attempt HistoryFault) : Type 0 where
  pub exact : Exact
  pub is_exact : IsExact snapshot zxid logs exact
  pub contents : Bor Contents
  pub same : contents.now ≡ snapshot.contents
  pub result : Result Restored DirectoryFault
  pub restored : IsRestored (bases.Snapshot contents zxid exact.zxid) upto logs result
  pub answered : answer ≡ attempt_by exact zxid logged result

abbrev pub broken_by : BaseFault → PassedFault
broken_by base_faults.Access = passed.Access
broken_by fault = passed.Tree

-- it does not state where its window ends, and its nodes are no tree
pub record IsNoTree (snapshot : Snapshot) (zxid : ℤ) (answer : Result Attempt HistoryFault) : Type 0 where
  pub untold : (exact_from snapshot zxid).is_told ≡ false
  pub fault : BaseFault
  pub broken : snapshot_fault snapshot.contents ≡ Some fault
  pub answered : answer ≡ Ok (Passed (broken_by fault))

-- with these logs it leads to a state, or to none
abbrev pub Leads : Snapshot → ℤ → Option ℤ → List ℤ → List (Bor (List ℕ)) → Result Attempt HistoryFault → Type 0
Leads snapshot zxid upto logged logs (Ok attempt) = IsTried snapshot zxid upto logged logs (Ok attempt) ⊎ IsNoTree snapshot zxid (Ok attempt)
Leads snapshot zxid upto logged logs (Err faults.NoMemory) = Unit {0}
Leads snapshot zxid upto logged logs (Err fault) = IsTried snapshot zxid upto logged logs (Err fault)

-- ---- a snapshot, by its bytes

-- over the logs that the folder gives from where the snapshot's entries begin
pub record LeadsOver (log_bytes : List ℕ → Option (List ℕ)) (snapshot : Snapshot) (zxid : ℤ) (upto : Option ℤ) (logged : List ℤ) (answer : Result Attempt HistoryFault) : Type 0 where
  pub logs : List (Bor (List ℕ))
  pub given : AreGiven log_bytes (logs_from zxid logged) (map bytes_of logs)
  pub leads : Leads snapshot zxid upto (logs_from zxid logged) logs answer

abbrev pub TriesBytes : (List ℕ → Option (List ℕ)) → List ℕ → Result Snapshot JuteFault → ℤ → Option ℤ → List ℤ → Result Attempt HistoryFault → Type 0
TriesBytes log_bytes bytes (Ok snapshot) zxid upto logged answer = LeadsOver log_bytes snapshot zxid upto logged answer
TriesBytes log_bytes bytes (Err field) zxid upto logged answer = answer ≡ passed_by (passed_fault (fault_of bytes field))

pub record TriesGiven (snapshot_bytes log_bytes : List ℕ → Option (List ℕ)) (zxid : ℤ) (upto : Option ℤ) (logged : List ℤ) (answer : Result Attempt HistoryFault) : Type 0 where
  pub bytes : List ℕ
  pub given : IsGiven (snapshot_bytes (snapshot_name zxid)) bytes
  pub tries : TriesBytes log_bytes bytes (all_of bytes) zxid upto logged answer

-- what the snapshot of this zxid leads to, unless a file could not be read
abbrev pub Tries : (List ℕ → Option (List ℕ)) → (List ℕ → Option (List ℕ)) → ℤ → Option ℤ → List ℤ → Result Attempt HistoryFault → Type 0
Tries snapshot_bytes log_bytes zxid upto logged (Ok attempt) = TriesGiven snapshot_bytes log_bytes zxid upto logged (Ok attempt)
Tries snapshot_bytes log_bytes zxid upto logged (Err fault) = AreUnreadFiles snapshot_bytes log_bytes fault ⊎ TriesGiven snapshot_bytes log_bytes zxid upto logged (Err fault)

-- ---- calls within

abbrev pub FindsExact : Snapshot → ℤ → List (Bor (List ℕ)) → Result Exact BaseFault → Type 0
FindsExact snapshot zxid logs (Ok exact) = IsExact snapshot zxid logs exact
FindsExact snapshot zxid logs (Err base_faults.NoMemory) = Unit {0}
FindsExact snapshot zxid logs (Err fault) = ((exact_from snapshot zxid).is_told ≡ false) × (snapshot_fault snapshot.contents ≡ Some fault)

abbrev pub TriesOver : (List ℕ → Option (List ℕ)) → Snapshot → ℤ → Option ℤ → List ℤ → Result Attempt HistoryFault → Type 0
TriesOver log_bytes snapshot zxid upto logged (Ok attempt) = LeadsOver log_bytes snapshot zxid upto logged (Ok attempt)
TriesOver log_bytes snapshot zxid upto logged (Err fault) = IsUnreadLog log_bytes fault ⊎ LeadsOver log_bytes snapshot zxid upto logged (Err fault)

abbrev pub TriesBytesOf : (List ℕ → Option (List ℕ)) → List ℕ → ℤ → Option ℤ → List ℤ → Result Attempt HistoryFault → Type 0
TriesBytesOf log_bytes bytes zxid upto logged (Ok attempt) = TriesBytes log_bytes bytes (all_of bytes) zxid upto logged (Ok attempt)
TriesBytesOf log_bytes bytes zxid upto logged (Err fault) = IsUnreadLog log_bytes fault ⊎ TriesBytes log_bytes bytes (all_of bytes) zxid upto logged (Err fault)
