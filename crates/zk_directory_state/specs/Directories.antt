-- The state that a directory's logs lead to from a base, over whole lists of files.
use Rattle.std.specs.Prelude.{◌≡◌, ◌⊎◌, ◌+◌, ℕ, ℤ, Bool, true, false, not, List, [], ◌∷◌, length, map, take, Option, Some, None, Result, Ok, Err, if◌then◌else◌}
use Rattle.std.specs.Borrow.{Bor}
use Rattle.zk_table.specs.Histories.{tree_of}
use Rattle.zk_table.specs.States.{State}
use Rattle.zk_replay.specs.Bases.{IsDraftOf}
use Rattle.zk_replay.specs.declared.draft.Draft.{Draft}
use Rattle.zk_replay.specs.declared.fault.BaseFault.{BaseFault}
use Rattle.zk_replay.specs.declared.fault.BaseFault.TheVariants as base_faults
use Rattle.zk_log.specs.declared.loaded.Ending.{Ending}
use Rattle.zk_directory.specs.LogFiles.{IsLogFile}
use Rattle.zk_directory.specs.declared.file.LogFile.{LogFile}
use Rattle.zk_directory.specs.declared.file.LogFileFault.{LogFileFault}
use Rattle.zk_newer_records.specs.declared.newer_record.NewerRecord.{NewerRecord}
use Rattle.zk_directory.specs.Joints.{joints_of}
use Rattle.zk_directory_state.specs.Counts.{IsCountOf}
use Rattle.zk_directory_state.specs.Ends.{last_entries, last_time, next_by}
use Rattle.zk_directory_state.specs.Joins.{Reading, fault_of_base, read_file, window_fault}
use Rattle.zk_directory_state.specs.Restorations.{Follows, IsAfterFile, IsFaultOf, Replays, base_fault, exact_of, first_window, is_before, is_early, reading_of, reading_with, start_of}
use Rattle.zk_directory_state.specs.States.{IsStateFrom, txn_of}
use Rattle.zk_directory_state.specs.declared.restored_directory.Progress.{Progress}
use Rattle.zk_directory_state.specs.declared.restored_directory.Restored.{Restored}
use Rattle.zk_directory_state.specs.declared.restored_directory.Step.{Step}
use Rattle.zk_directory_state.specs.declared.restore_fault.DirectoryFault.{DirectoryFault}
use Rattle.zk_directory_state.specs.declared.restore_fault.RestoreFault.{RestoreFault}
use Rattle.zk_directory_state.specs.declared.restore_fault.RestoreFault.TheVariants as faults
use Rattle.zk_directory_state.specs.declared.restoration.Base.{Base}
use Rattle.zk_directory_state.specs.declared.restoration.Base.TheVariants as bases
use Rattle.zk_directory_state.specs.declared.restoration.Restore.{Restore}

-- ---- the files

-- the files of these bytes
abbrev pub AreLogFiles : List (Bor (List ℕ)) → List LogFile → Type 0
AreLogFiles [] [] = Unit {0}
AreLogFiles (bytes ∷ logs) (file ∷ files) = IsLogFile bytes.now file × AreLogFiles logs files
AreLogFiles logs files = ⊥

abbrev pub read_next : Result Reading RestoreFault → LogFile → Result Reading RestoreFault
read_next (Ok reading) file = if reading.is_over then Ok reading else read_file reading file
read_next (Err fault) file = Err fault

-- files in order, up to the first fault
unfoldable pub read_files : Result Reading RestoreFault → List LogFile → Result Reading RestoreFault
read_files read [] = read
read_files read (file ∷ files) = read_files (read_next read file) files

abbrev pub ending_of : Result Ending LogFileFault → Option Ending
ending_of (Ok ending) = Some ending
ending_of (Err fault) = None

-- how the last file ends, unless it is broken
unfoldable pub last_ending : Option Ending → List LogFile → Option Ending
last_ending ending [] = ending
last_ending ending (file ∷ files) = last_ending (ending_of file.outcome) files

-- no file was read yet
abbrev pub start_reading : Base → Option ℤ → Reading
start_reading base upto = record { history = start_of base upto; records = []; window = first_window base; is_over = false }

-- what the logs lead to
abbrev pub reading_by : Base → Option ℤ → List LogFile → Result Reading RestoreFault
reading_by base upto files = read_files (Ok (start_reading base upto)) files

-- ---- the state

-- from the empty tree by the rules of the table; from a snapshot by a replay of its window, and
-- then by these rules
abbrev pub IsStateOf : Base → List NewerRecord → State → Type 0
IsStateOf bases.Empty records state = state ≡ tree_of (map txn_of records)
IsStateOf (bases.Snapshot contents zxid exact) records state = (draft : Draft) × IsDraftOf contents.now draft × IsStateFrom draft zxid exact records state

-- the first `read` logs were read: up to the zxid that was asked for, or all of them
pub record Reads (base : Base) (upto : Option ℤ) (logs : List (Bor (List ℕ))) (read : ℕ) (reading : Reading) : Type 0 where
  pub in_time : is_early base upto ≡ false
  pub sound : base_fault base ≡ None
  pub files : List LogFile
  pub of_logs : AreLogFiles (take read logs) files
  pub of_files : reading_by base upto files ≡ Ok reading
  pub enough : (read ≡ length logs) ⊎ (reading.is_over ≡ true)

-- the entries end before the snapshot is exact
abbrev pub ends_short : Base → Reading → Bool
ends_short base reading = is_before reading.history.position (exact_of base)

pub record Restores (base : Base) (upto : Option ℤ) (logs : List (Bor (List ℕ))) (restored : Restored) : Type 0 where
  pub reading : Reading
  pub reads : Reads base upto logs restored.read reading
  pub long : ends_short base reading ≡ false
  pub whole : window_fault reading.window ≡ None
  pub position : restored.position ≡ reading.history.position
  pub state : IsStateOf base reading.records restored.table.state
  pub digests : IsCountOf base reading.records restored.digests
  pub ending : restored.ending ≡ last_ending None reads.files
  -- the entry at which reading stopped is in the last file that was read
  pub next : restored.next ≡ next_by (not reading.is_over) reading.history.position (last_entries [] reads.files)
  pub time : restored.time ≡ last_time reading.history.taken
  pub joints : restored.joints.items ≡ joints_of reading.history restored.digests.last

-- the logs were read up to the fault
pub record Breaks (base : Base) (upto : Option ℤ) (logs : List (Bor (List ℕ))) (log : ℕ) (fault : RestoreFault) : Type 0 where
  pub in_time : is_early base upto ≡ false
  pub sound : base_fault base ≡ None
  pub files : List LogFile
  pub of_logs : AreLogFiles (take (log + 1) logs) files
  pub of_files : reading_by base upto files ≡ Err fault

-- the logs end too early
pub record EndsShort (base : Base) (upto : Option ℤ) (logs : List (Bor (List ℕ))) (log : ℕ) : Type 0 where
  pub reading : Reading
  pub reads : Reads base upto logs log reading
  pub short : ends_short base reading ≡ true

-- the logs end with the window, which leads to no state
pub record EndsBroken (base : Base) (upto : Option ℤ) (logs : List (Bor (List ℕ))) (log : ℕ) (fault : BaseFault) : Type 0 where
  pub reading : Reading
  pub reads : Reads base upto logs log reading
  pub long : ends_short base reading ≡ false
  pub broken : window_fault reading.window ≡ Some fault

-- a snapshot is broken by itself
pub record StartsBroken (base : Base) (upto : Option ℤ) (fault : BaseFault) : Type 0 where
  pub in_time : is_early base upto ≡ false
  pub broken : base_fault base ≡ Some fault

-- a snapshot leads to no state: by itself, at the first entry after its window, or at the end
abbrev pub IsNoState : Base → Option ℤ → List (Bor (List ℕ)) → ℕ → BaseFault → Type 0
IsNoState base upto logs log fault = StartsBroken base upto fault ⊎ (Breaks base upto logs log (fault_of_base fault) ⊎ EndsBroken base upto logs log fault)

abbrev pub FailsBy : Base → Option ℤ → List (Bor (List ℕ)) → ℕ → RestoreFault → Type 0
FailsBy base upto logs log (faults.Early exact) = (is_early base upto ≡ true) × (exact ≡ exact_of base)
FailsBy base upto logs log (faults.Short exact) = EndsShort base upto logs log × (exact ≡ exact_of base)
FailsBy base upto logs log faults.NoMemory = is_early base upto ≡ false
FailsBy base upto logs log faults.Tree = IsNoState base upto logs log base_faults.Tree
FailsBy base upto logs log faults.Access = IsNoState base upto logs log base_faults.Access
FailsBy base upto logs log fault = Breaks base upto logs log fault

abbrev pub IsRestored : Base → Option ℤ → List (Bor (List ℕ)) → Result Restored DirectoryFault → Type 0
IsRestored base upto logs (Ok restored) = Restores base upto logs restored
IsRestored base upto logs (Err failed) = FailsBy base upto logs failed.log failed.fault

-- ---- calls within

-- a log was read
pub record IsAfterLog (old : Restore) (bytes : List ℕ) (step : Step) : Type 0 where
  pub file : LogFile
  pub of_bytes : IsLogFile bytes file
  pub after : IsAfterFile old file step.restore step.goes_on
  pub ending : step.ending ≡ ending_of file.outcome
  pub next : step.next ≡ next_by step.goes_on step.restore.chain.position file.entries.items

abbrev pub ReadsLog : Restore → List ℕ → Result Step RestoreFault → Type 0
ReadsLog old bytes (Ok step) = IsAfterLog old bytes step
ReadsLog old bytes (Err faults.NoMemory) = Unit {0}
ReadsLog old bytes (Err fault) = (file : LogFile) × IsLogFile bytes file × IsFaultOf (read_file (reading_of old) file) fault

-- logs were read; reading is over, or goes on
pub record AreRead (old : Restore) (logs : List (Bor (List ℕ))) (read : ℕ) (new : Restore) (over : Bool) (ending : Option Ending) : Type 0 where
  pub files : List LogFile
  pub of_logs : AreLogFiles (take read logs) files
  pub records : List NewerRecord
  pub of_files : read_files (Ok (reading_of old)) files ≡ Ok (reading_with new records over)
  pub exact : new.exact ≡ old.exact
  pub stage : Replays old.stage old.exact records new.stage
  pub counted : Follows old records new
  pub last : ending ≡ last_ending None files

pub record AreAllRead (old : Restore) (logs : List (Bor (List ℕ))) (progress : Progress) : Type 0 where
  pub over : Bool
  pub after : AreRead old logs progress.read progress.restore over progress.ending
  pub next : progress.next ≡ next_by (not over) progress.restore.chain.position (last_entries [] after.files)
  pub enough : (progress.read ≡ length logs) ⊎ (over ≡ true)

-- logs were read up to a fault
pub record AreBroken (old : Restore) (logs : List (Bor (List ℕ))) (log : ℕ) (fault : RestoreFault) : Type 0 where
  pub files : List LogFile
  pub of_logs : AreLogFiles (take (log + 1) logs) files
  pub of_files : IsFaultOf (read_files (Ok (reading_of old)) files) fault

abbrev pub FailsIn : Restore → List (Bor (List ℕ)) → ℕ → RestoreFault → Type 0
FailsIn old logs log faults.NoMemory = Unit {0}
FailsIn old logs log fault = AreBroken old logs log fault

abbrev pub ReadsLogs : Restore → List (Bor (List ℕ)) → Result Progress DirectoryFault → Type 0
ReadsLogs old logs (Ok progress) = AreAllRead old logs progress
ReadsLogs old logs (Err failed) = FailsIn old logs failed.log failed.fault
