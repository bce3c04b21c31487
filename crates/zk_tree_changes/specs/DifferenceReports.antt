-- What `zk diff` writes: what differs between two states of a data directory.
use Rattle.std.specs.Prelude.{◌≡◌, ◌⊎◌, ℕ, true, int_le, List, ◌++◌, map, Option, Result, Ok, Err, false, ℤ, if◌then◌else◌}
use Rattle.std.specs.Borrow.{Bor}
use Rattle.std.specs.Str.{bytes_eq}
use Rattle.std.specs.List.{flat_map}
use Rattle.std.specs.String.{string_bytes}
use Rattle.zk_tree_changes.specs.declared.compared.Compared.{Compared}
use Rattle.zk_tree_changes.specs.declared.compared.Moment.{Moment}
use Rattle.zk_tree_changes.specs.Changes.{Track, followed_all, stamp_at, start_track}
use Rattle.zk_tree_changes.specs.Differences.{differences}
use Rattle.zk_tree_changes.specs.Texts.{AreLines}
use Rattle.zk_directory_state.specs.Histories.{AreIn, Holds}
use Rattle.zk_directory_state.specs.Logs.{AreGiven, AreUnreadLogs, bytes_of}
use Rattle.zk_directory_state.specs.Notices.{OutputsNoticed, notices_of}
use Rattle.zk_directory_state.specs.declared.history.Shown.{Shown}
use Rattle.zk_directory_state.specs.declared.notices.Noticed.{Noticed}
use Rattle.zk_directory_state.specs.declared.upto.Upto.{Upto}
use Rattle.zk_directory_state.specs.Names.{log_zxid}
use Rattle.zk_directory_state.specs.declared.fault.HistoryFault.{HistoryFault}
use Rattle.zk_directory.specs.declared.file.LogFile.{LogFile}
use Rattle.zk_newer_records.specs.declared.newer_record.NewerRecord.{NewerRecord}
use Rattle.zk_path.specs.declared.memory.NoMemory.{NoMemory}
use Rattle.zk_records.specs.declared.sink.Sink.{Sink}
use Rattle.zk_directory_state.specs.Directories.{AreLogFiles}
use Rattle.zk_table.specs.States.{State}

-- ---- the transactions between two states

-- all records of files, in order; logs may share some
abbrev pub records_of : LogFile → List NewerRecord
records_of file = map (λ entry. entry.newer) file.entries.items

abbrev pub records_in : List LogFile → List NewerRecord
records_in files = flat_map records_of files

-- of the logs that a folder gives
pub record AreLogged (logs : Option (List (List ℕ))) (log_bytes : List ℕ → Option (List ℕ)) (records : List NewerRecord) : Type 0 where
  pub logged : List ℤ
  pub are_logs : AreIn log_zxid logs logged
  pub given : List (Bor (List ℕ))
  pub are_given : AreGiven log_bytes logged (map bytes_of given)
  pub files : List LogFile
  pub of_logs : AreLogFiles given files
  pub are : records ≡ records_in files

-- from the earlier state to the later
abbrev pub track_between : State → State → Track
track_between old new = if int_le old.last new.last then start_track old.nodes old.last new.last else start_track new.nodes new.last old.last

-- ---- two states

-- the notices on two states, once if they are the same
abbrev pub notices_of_both : List ℕ → List ℕ → List ℕ
notices_of_both old new = if bytes_eq old new then old else old ++ new

-- the states up to two transactions, as `zk show` prints them, and the last transactions between them
pub record AreCompared (snapshots : Option (List (List ℕ))) (snapshot_bytes : List ℕ → Option (List ℕ)) (logs : Option (List (List ℕ))) (log_bytes : List ℕ → Option (List ℕ)) (from to : Upto) (old new : State) (changes : Track) (notices : List ℕ) : Type 0 where
  pub shown_old : Shown
  pub shown_new : Shown
  pub holds_old : Holds snapshots snapshot_bytes logs log_bytes from (Ok shown_old)
  pub holds_new : Holds snapshots snapshot_bytes logs log_bytes to (Ok shown_new)
  pub is_old : old ≡ shown_old.restored.table.state
  pub is_new : new ≡ shown_new.restored.table.state
  pub records : List NewerRecord
  pub logged : AreLogged logs log_bytes records
  pub are_changes : changes ≡ followed_all (track_between old new) records
  pub are_notices : notices ≡ notices_of_both (notices_of from shown_old.restored) (notices_of to shown_new.restored)

-- the fault of the first state that there is not, or of a log that cannot be read
abbrev pub AreNotCompared : Option (List (List ℕ)) → (List ℕ → Option (List ℕ)) → Option (List (List ℕ)) → (List ℕ → Option (List ℕ)) → Upto → Upto → HistoryFault → Type 0
AreNotCompared snapshots snapshot_bytes logs log_bytes from to fault = AreUnreadLogs logs log_bytes fault ⊎ (Holds snapshots snapshot_bytes logs log_bytes from (Err fault) ⊎ Holds snapshots snapshot_bytes logs log_bytes to (Err fault))

-- machines in both states
abbrev pub FindsCompared : Option (List (List ℕ)) → (List ℕ → Option (List ℕ)) → Option (List (List ℕ)) → (List ℕ → Option (List ℕ)) → Upto → Upto → Result Compared HistoryFault → Type 0
FindsCompared snapshots snapshot_bytes logs log_bytes from to (Ok compared) = AreCompared snapshots snapshot_bytes logs log_bytes from to compared.old.state compared.new.state compared.changes (string_bytes compared.notices) × (compared.old.failed ≡ false) × (compared.new.failed ≡ false)
FindsCompared snapshots snapshot_bytes logs log_bytes from to (Err fault) = AreNotCompared snapshots snapshot_bytes logs log_bytes from to fault

-- ---- the difference

-- at a path and below, each node with the last transaction between them that changed it
pub record IsDifference (snapshots : Option (List (List ℕ))) (snapshot_bytes : List ℕ → Option (List ℕ)) (logs : Option (List (List ℕ))) (log_bytes : List ℕ → Option (List ℕ)) (from to : Upto) (path text notices : List ℕ) : Type 0 where
  pub old : State
  pub new : State
  pub changes : Track
  pub compared : AreCompared snapshots snapshot_bytes logs log_bytes from to old new changes notices
  pub are : AreLines (stamp_at changes) (differences path true old.nodes new.nodes) text

abbrev pub FindsDifference : Option (List (List ℕ)) → (List ℕ → Option (List ℕ)) → Option (List (List ℕ)) → (List ℕ → Option (List ℕ)) → Upto → Upto → List ℕ → Result Noticed HistoryFault → Type 0
FindsDifference snapshots snapshot_bytes logs log_bytes from to path (Ok noticed) = IsDifference snapshots snapshot_bytes logs log_bytes from to path (string_bytes noticed.text) (string_bytes noticed.notices)
FindsDifference snapshots snapshot_bytes logs log_bytes from to path (Err fault) = AreNotCompared snapshots snapshot_bytes logs log_bytes from to fault

-- what differs is written, or why there is no such state
pub record TellsDifference {O E : Type 0} (written : O → Option (List ℕ)) (told : E → Option (List ℕ)) (snapshots : Option (List (List ℕ))) (snapshot_bytes : List ℕ → Option (List ℕ)) (logs : Option (List (List ℕ))) (log_bytes : List ℕ → Option (List ℕ)) (from to : Upto) (path : List ℕ) (output output' : Sink O) (faults faults' : Sink E) (result : Result ℕ NoMemory) : Type 0 where
  pub answer : Result Noticed HistoryFault
  pub finds : FindsDifference snapshots snapshot_bytes logs log_bytes from to path answer
  pub outputs : OutputsNoticed written told answer output output' faults faults' result

-- ---- calls within

-- a machine in the state, and the notices on it
abbrev pub FindsMoment : Option (List (List ℕ)) → (List ℕ → Option (List ℕ)) → Option (List (List ℕ)) → (List ℕ → Option (List ℕ)) → Upto → Result Moment HistoryFault → Type 0
FindsMoment snapshots snapshot_bytes logs log_bytes upto (Ok moment) =
    (shown : Shown) × Holds snapshots snapshot_bytes logs log_bytes upto (Ok shown) × (moment.machine.state ≡ shown.restored.table.state) × (moment.machine.failed ≡ false) × (string_bytes moment.notices ≡ notices_of upto shown.restored)
FindsMoment snapshots snapshot_bytes logs log_bytes upto (Err fault) = Holds snapshots snapshot_bytes logs log_bytes upto (Err fault)

-- the records of logs are followed
abbrev pub FollowsLogs : List (Bor (List ℕ)) → Track → Track → Type 0
FollowsLogs given old new = (files : List LogFile) × AreLogFiles given files × (new ≡ followed_all old (records_in files))

pub record FollowsLogged (logs : Option (List (List ℕ))) (log_bytes : List ℕ → Option (List ℕ)) (old new : Track) : Type 0 where
  pub records : List NewerRecord
  pub logged : AreLogged logs log_bytes records
  pub is : new ≡ followed_all old records
