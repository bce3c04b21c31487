-- The state of a directory: the latest snapshot that serves, and the transactions after it; or all
-- transactions from the first.
use Rattle.std.specs.Prelude.{◌≡◌, ◌<◌, ◌⊎◌, ◌+◌, ℕ, ℤ, pos, Bool, true, false, int_le, int_lt, ◌&&◌, is_some, List, [], ◌∷◌, ◌++◌, filter, length, map, reverse, slice_get, Option, Some, None, Result, Ok, Err, String, if◌then◌else◌}
use Rattle.std.specs.Borrow.{Bor}
use Rattle.std.specs.Global.{Global}
use Rattle.std.specs.String.{string_bytes}
use Rattle.zk_replay.specs.declared.exact.Exact.{Exact}
use Rattle.zk_directory_state.specs.Attempts.{TriesGiven, history_fault}
use Rattle.std.specs.Ordering.{int_eq}
use Rattle.zk_directory_state.specs.Evidence.{IsStart, is_first, is_new, proved}
use Rattle.zk_directory_state.specs.declared.evidence.Start.{Start}
use Rattle.zk_directory_state.specs.Logs.{AreGiven, AreUnreadFiles, IsUnreadIn, IsUnreadLog, bytes_of}
use Rattle.zk_directory_state.specs.declared.attempt.Attempt.{Attempt}
use Rattle.zk_directory_state.specs.declared.attempt.Attempt.TheVariants as attempts
use Rattle.zk_directory_state.specs.declared.history.Broken.{Broken}
use Rattle.zk_directory_state.specs.declared.history.Early.{Early}
use Rattle.zk_directory_state.specs.declared.history.Next.{Next}
use Rattle.zk_directory_state.specs.declared.history.Next.TheVariants.{Done, More}
use Rattle.zk_directory_state.specs.declared.history.Origin.{Origin}
use Rattle.zk_directory_state.specs.declared.history.PassedOver.{PassedOver}
use Rattle.zk_directory_state.specs.declared.history.Shown.{Shown}
use Rattle.zk_directory_state.specs.declared.upto.Upto.{Upto}
use Rattle.zk_directory_state.specs.declared.upto.Upto.TheVariants.{Last, Zxid, Time}
use Rattle.zk_directory_state.specs.Folders.{IsGiven}
use Rattle.zk_directory_state.specs.Names.{AreZxidsBy, log_name, log_zxid, snapshot_zxid}
use Rattle.zk_directory_state.specs.declared.fault.HistoryFault.{HistoryFault}
use Rattle.zk_directory_state.specs.declared.fault.HistoryFault.TheVariants as faults
use Rattle.zk_directory_state.specs.declared.fault.PassedFault.{PassedFault}
use Rattle.zk_directory.specs.LogFiles.{IsLogFile}
use Rattle.zk_directory.specs.declared.file.FileEntry.{FileEntry}
use Rattle.zk_directory.specs.declared.file.LogFile.{LogFile}
use Rattle.zk_directory_state.specs.Directories.{IsRestored}
use Rattle.zk_directory_state.specs.declared.restored_directory.Restored.{Restored}
use Rattle.zk_directory_state.specs.declared.restore_fault.DirectoryFault.{DirectoryFault}
use Rattle.zk_directory_state.specs.declared.restore_fault.RestoreFault.{RestoreFault}
use Rattle.zk_directory_state.specs.declared.restore_fault.RestoreFault.TheVariants as restore_faults
use Rattle.zk_directory_state.specs.declared.restoration.Base.TheVariants as bases

-- ---- up to which transaction

-- the greatest zxid of an entry that has this time or an earlier one
abbrev pub later_at : ℤ → FileEntry → ℤ → ℤ
later_at time entry zxid = if int_le entry.newer.txn.time time && int_lt zxid entry.newer.txn.zxid then entry.newer.txn.zxid else zxid

unfoldable pub latest_in : ℤ → ℤ → List FileEntry → ℤ
latest_in time zxid [] = zxid
latest_in time zxid (entry ∷ entries) = latest_in time (later_at time entry zxid) entries

-- of the logs that the folder gives, and this zxid
pub record IsLatestIn (bytes_in : List ℕ → Option (List ℕ)) (log time zxid latest : ℤ) : Type 0 where
  pub bytes : List ℕ
  pub file : LogFile
  pub given : IsGiven (bytes_in (log_name log)) bytes
  pub of_bytes : IsLogFile bytes file
  pub is : latest ≡ latest_in time zxid file.entries.items

abbrev pub IsLatestAt : (List ℕ → Option (List ℕ)) → ℤ → ℤ → List ℤ → ℤ → Type 0
IsLatestAt bytes_in time zxid [] latest = latest ≡ zxid
IsLatestAt bytes_in time zxid (log ∷ logged) latest = (next : ℤ) × IsLatestIn bytes_in log time zxid next × IsLatestAt bytes_in time next logged latest

-- whether one of the logs that the folder gives has an entry
abbrev pub HaveEntry : (List ℕ → Option (List ℕ)) → List ℤ → Bool → Type 0
HaveEntry bytes_in logged has = (logs : List (Bor (List ℕ))) × AreGiven bytes_in logged (map bytes_of logs) × ((start : Option Start) × IsStart 0 logs start × (has ≡ is_some start))

-- the one of a zxid above 0 is there
abbrev pub HaveTime : Bool → (List ℕ → Option (List ℕ)) → List ℤ → Bool → Type 0
HaveTime true bytes_in logged has = HaveEntry bytes_in logged has
HaveTime false bytes_in logged has = has ≡ true

abbrev pub upto_by : ℤ → Bool → Result (Option ℤ) HistoryFault
upto_by latest true = Ok (Some latest)
upto_by latest false = Err faults.NoTransaction

abbrev pub IsUptoTime : (List ℕ → Option (List ℕ)) → ℤ → List ℤ → Result (Option ℤ) HistoryFault → Type 0
IsUptoTime bytes_in time logged answer =
    (latest : ℤ) × IsLatestAt bytes_in time (pos 0) logged latest × ((has : Bool) × HaveTime (int_eq latest (pos 0)) bytes_in logged has × (answer ≡ upto_by latest has))

-- the zxid up to which the directory is shown; none for the end of the logs
abbrev pub IsUpto : (List ℕ → Option (List ℕ)) → List ℤ → Upto → Result (Option ℤ) HistoryFault → Type 0
IsUpto bytes_in logged Last answer = answer ≡ Ok None
IsUpto bytes_in logged (Zxid upto) answer = answer ≡ Ok (Some upto)
IsUpto bytes_in logged (Time time) answer = IsUptoTime bytes_in time logged answer

abbrev pub is_begun : Option ℤ → ℤ → Bool
is_begun None zxid = true
is_begun (Some upto) zxid = int_le zxid upto

-- the snapshots that were begun up to a zxid, the latest first
abbrev pub candidates : Option ℤ → List ℤ → List ℤ
candidates upto held = reverse (filter (is_begun upto) held)

-- ---- without a snapshot

-- which files there are, and what they hold
pub record Folders : Type 0 where
  pub snapshot_bytes : List ℕ → Option (List ℕ)
  pub log_bytes : List ℕ → Option (List ℕ)
  pub held : List ℤ
  pub logged : List ℤ
  pub upto : Option ℤ

abbrev pub early_fault : Early → HistoryFault
early_fault early = faults.Early early.zxid early.exact

abbrev pub first_missing : Option ℤ → Option HistoryFault
first_missing None = None
first_missing (Some zxid) = Some (faults.Purged zxid)

abbrev pub first_broken : Option Broken → Option ℤ → Option HistoryFault
first_broken None zxid = first_missing zxid
first_broken (Some broken) zxid = Some (faults.Snapshot broken.zxid broken.fault)

-- if there are snapshots but none serves, and the logs have no transaction: the first early one, or
-- else the latest broken one, or else the zxid of the first of all
abbrev pub missing : Option Early → List Broken → List ℤ → Option HistoryFault
missing None broken held = first_broken (slice_get broken 0) (slice_get held 0)
missing (Some early) broken held = Some (early_fault early)

-- an early snapshot says from which zxid on there are states
abbrev pub fault_without : Option Early → DirectoryFault → List ℤ → RestoreFault → HistoryFault
fault_without (Some early) failed logged (restore_faults.Purged first) = early_fault early
fault_without early failed logged fault = history_fault failed (pos 0) logged

abbrev pub blank_by : Restored → Option HistoryFault → Result Restored HistoryFault
blank_by restored None = Ok restored
blank_by restored (Some fault) = Err fault

abbrev pub restored_by : Restored → Option HistoryFault → Option ℤ → Result Restored HistoryFault
restored_by restored fault (Some position) = Ok restored
restored_by restored fault None = blank_by restored fault

abbrev pub without_by : List ℤ → List ℤ → List Broken → Option Early → Result Restored DirectoryFault → Result Restored HistoryFault
without_by held logged broken early (Ok restored) = restored_by restored (missing early broken held) restored.position
without_by held logged broken early (Err failed) = Err (fault_without early failed logged failed.fault)

abbrev pub purged_fault : Option Early → ℤ → HistoryFault
purged_fault None first = faults.Purged first
purged_fault (Some early) first = early_fault early

-- logs without an entry say nothing, unless a server has just created them; a snapshot says more
abbrev pub blank_fault : List ℤ → List ℤ → Option HistoryFault
blank_fault [] logged = if is_new logged then None else Some faults.NoTransaction
blank_fault (zxid ∷ held) logged = None

-- the history has no beginning
abbrev pub start_fault : Option Early → List ℤ → List ℤ → Option Start → Option HistoryFault
start_fault early held logged None = blank_fault held logged
start_fault early held logged (Some start) = if is_first logged start then None else Some (purged_fault early start.zxid)

abbrev pub AnswersFrom : Folders → List Broken → Option Early → List (Bor (List ℕ)) → Option HistoryFault → Result Restored HistoryFault → Type 0
AnswersFrom folders broken early logs (Some fault) answer = answer ≡ Err fault
AnswersFrom folders broken early logs None answer = (result : Result Restored DirectoryFault) × IsRestored bases.Empty folders.upto logs result × (answer ≡ without_by folders.held folders.logged broken early result)

-- all logs, from the empty tree
pub record IsWithoutSnapshot (folders : Folders) (broken : List Broken) (early : Option Early) (answer : Result Restored HistoryFault) : Type 0 where
  pub logs : List (Bor (List ℕ))
  pub given : AreGiven folders.log_bytes folders.logged (map bytes_of logs)
  pub start : Option Start
  pub is_start : IsStart 0 logs start
  pub answered : AnswersFrom folders broken early logs (start_fault early folders.held folders.logged start) answer

-- ---- the latest snapshot that serves

abbrev pub IsShown : Restored → Option Origin → List Broken → Shown → Type 0
IsShown restored origin broken shown = (shown.restored ≡ restored) × (shown.origin ≡ origin) × (shown.broken.items ≡ broken)

abbrev pub IsAnswer : Restored → Option Origin → List Broken → Result Shown HistoryFault → Type 0
IsAnswer restored origin broken (Ok shown) = IsShown restored origin broken shown
IsAnswer restored origin broken (Err fault) = ⊥

abbrev pub first_early : Option Early → ℤ → ℤ → Option Early
first_early None zxid exact = Some (record { zxid = zxid; exact = exact })
first_early (Some early) zxid exact = Some early

abbrev pub origin_of : ℤ → Exact → Option Origin
origin_of zxid exact = Some (record { zxid = zxid; exact = exact })

abbrev pub with_broken : List Broken → ℤ → PassedFault → List Broken
with_broken broken zxid fault = broken ++ (record { zxid = zxid; fault = fault }) ∷ []

-- a broken one is passed over, and so is one that is exact too late
abbrev pub Follows : ℤ → List Broken → Option Early → Result Shown HistoryFault → (List Broken → Option Early → Type 0) → Result Attempt HistoryFault → Type 0
Follows zxid broken early answer next (Ok (attempts.Serves restored exact)) = IsAnswer restored (origin_of zxid exact) broken answer
Follows zxid broken early answer next (Ok (attempts.Passed fault)) = next (with_broken broken zxid fault) early
Follows zxid broken early answer next (Ok (attempts.Early exact)) = next broken (first_early early zxid exact)
Follows zxid broken early answer next (Err fault) = answer ≡ Err fault

abbrev pub AnswersWithout : List Broken → Result Shown HistoryFault → Result Restored HistoryFault → Type 0
AnswersWithout broken answer (Ok restored) = IsAnswer restored None broken answer
AnswersWithout broken answer (Err fault) = answer ≡ Err fault

-- the first of these snapshots that serves, or none
abbrev pub Chooses : Folders → Result Shown HistoryFault → List ℤ → List Broken → Option Early → Type 0
Chooses folders answer [] broken early = (restored : Result Restored HistoryFault) × IsWithoutSnapshot folders broken early restored × AnswersWithout broken answer restored
Chooses folders answer (zxid ∷ zxids) broken early =
    (attempt : Result Attempt HistoryFault) × TriesGiven folders.snapshot_bytes folders.log_bytes zxid folders.upto folders.logged attempt × Follows zxid broken early answer (Chooses folders answer zxids) attempt

-- ---- the directory

-- the zxids in the names that a folder gives
abbrev pub AreIn : (List ℕ → Option ℤ) → Option (List (List ℕ)) → List ℤ → Type 0
AreIn zxid_of given zxids = (names : List (String Global)) × IsGiven given (map string_bytes names) × AreZxidsBy (λ name. zxid_of (string_bytes name)) names zxids

-- up to a zxid: a state that the files prove
abbrev pub AnswersUpto : (List ℕ → Option (List ℕ)) → (List ℕ → Option (List ℕ)) → List ℤ → List ℤ → Upto → Result (Option ℤ) HistoryFault → Result Shown HistoryFault → Type 0
AnswersUpto snapshot_bytes log_bytes held logged upto (Err fault) answer = answer ≡ Err fault
AnswersUpto snapshot_bytes log_bytes held logged upto (Ok zxid) answer =
    (found : Result Shown HistoryFault)
    × Chooses (record { snapshot_bytes = snapshot_bytes; log_bytes = log_bytes; held = held; logged = logged; upto = zxid }) found (candidates zxid held) [] None
    × (answer ≡ proved upto found)

-- the snapshots and logs that there are, and up to which zxid they are shown
pub record IsHistory (snapshots : Option (List (List ℕ))) (snapshot_bytes : List ℕ → Option (List ℕ)) (logs : Option (List (List ℕ))) (log_bytes : List ℕ → Option (List ℕ)) (upto : Upto) (answer : Result Shown HistoryFault) : Type 0 where
  pub held : List ℤ
  pub logged : List ℤ
  pub are_snapshots : AreIn snapshot_zxid snapshots held
  pub are_logs : AreIn log_zxid logs logged
  pub some : 0 < length held + length logged
  pub zxid : Result (Option ℤ) HistoryFault
  pub is_upto : IsUpto log_bytes logged upto zxid
  pub answered : AnswersUpto snapshot_bytes log_bytes held logged upto zxid answer

-- there is no snapshot and no log
pub record HoldsNone (snapshots logs : Option (List (List ℕ))) : Type 0 where
  pub held : List ℤ
  pub logged : List ℤ
  pub are_snapshots : AreIn snapshot_zxid snapshots held
  pub are_logs : AreIn log_zxid logs logged
  pub none : length held + length logged ≡ 0

-- what a directory holds, or what of it cannot be read
abbrev pub Holds : Option (List (List ℕ)) → (List ℕ → Option (List ℕ)) → Option (List (List ℕ)) → (List ℕ → Option (List ℕ)) → Upto → Result Shown HistoryFault → Type 0
Holds snapshots snapshot_bytes logs log_bytes upto (Ok shown) = IsHistory snapshots snapshot_bytes logs log_bytes upto (Ok shown)
Holds snapshots snapshot_bytes logs log_bytes upto (Err faults.Empty) = HoldsNone snapshots logs
Holds snapshots snapshot_bytes logs log_bytes upto (Err fault) = IsUnreadIn snapshots snapshot_bytes logs log_bytes fault ⊎ IsHistory snapshots snapshot_bytes logs log_bytes upto (Err fault)

-- ---- calls within

-- unless a file could not be read
abbrev pub FindsUpto : (List ℕ → Option (List ℕ)) → List ℤ → Upto → Result (Option ℤ) HistoryFault → Type 0
FindsUpto bytes_in logged upto (Ok zxid) = IsUpto bytes_in logged upto (Ok zxid)
FindsUpto bytes_in logged upto (Err fault) = IsUnreadLog bytes_in fault ⊎ IsUpto bytes_in logged upto (Err fault)

abbrev pub FindsTime : (List ℕ → Option (List ℕ)) → ℤ → List ℤ → Result ℤ HistoryFault → Type 0
FindsTime bytes_in time logged (Ok latest) = IsUptoTime bytes_in time logged (Ok (Some latest))
FindsTime bytes_in time logged (Err fault) = IsUnreadLog bytes_in fault ⊎ IsUptoTime bytes_in time logged (Err fault)

abbrev pub RestoresWithout : Folders → List Broken → Option Early → Result Restored HistoryFault → Type 0
RestoresWithout folders broken early (Ok restored) = IsWithoutSnapshot folders broken early (Ok restored)
RestoresWithout folders broken early (Err fault) = IsUnreadLog folders.log_bytes fault ⊎ IsWithoutSnapshot folders broken early (Err fault)

-- one snapshot was tried
abbrev pub NextBy : ℤ → PassedOver → Result Attempt HistoryFault → Next → Type 0
NextBy zxid over (Ok (attempts.Serves restored exact)) (Done shown) = IsShown restored (origin_of zxid exact) over.broken.items shown
NextBy zxid over (Ok (attempts.Passed fault)) (More next) = (next.broken.items ≡ with_broken over.broken.items zxid fault) × (next.early ≡ over.early)
NextBy zxid over (Ok (attempts.Early exact)) (More next) = (next.broken.items ≡ over.broken.items) × (next.early ≡ first_early over.early zxid exact)
NextBy zxid over attempt next = ⊥

abbrev pub TriesNext : Folders → ℤ → PassedOver → Result Next HistoryFault → Type 0
TriesNext folders zxid over (Ok next) = (attempt : Result Attempt HistoryFault) × TriesGiven folders.snapshot_bytes folders.log_bytes zxid folders.upto folders.logged attempt × NextBy zxid over attempt next
TriesNext folders zxid over (Err fault) = AreUnreadFiles folders.snapshot_bytes folders.log_bytes fault ⊎ TriesGiven folders.snapshot_bytes folders.log_bytes zxid folders.upto folders.logged (Err fault)

abbrev pub ChoosesOf : Folders → List ℤ → List Broken → Option Early → Result Shown HistoryFault → Type 0
ChoosesOf folders zxids broken early (Ok shown) = Chooses folders (Ok shown) zxids broken early
ChoosesOf folders zxids broken early (Err fault) = AreUnreadFiles folders.snapshot_bytes folders.log_bytes fault ⊎ Chooses folders (Err fault) zxids broken early
