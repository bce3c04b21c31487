-- A walk over the logs of a directory: their entries in order, each once, from the first that is
-- logged, on both sides of damaged places.
use Rattle.std.specs.Prelude.{◌≡◌, ◌+◌, ◌-◌, ℕ, ℤ, pos, ◌-ℤ◌, Bool, true, false, ◌&&◌, ◌||◌, int_lt, List, [], ◌∷◌, ◌++◌, length, slice_get, Option, Some, None, Result, Ok, Err, if◌then◌else◌}
use Rattle.std.specs.Borrow.{Bor}
use Rattle.std.specs.Ordering.{int_eq}
use Rattle.zk_directory.specs.Chains.{History, history_of, with_entry}
use Rattle.zk_directory.specs.Continuing.{starts_history}
use Rattle.zk_directory.specs.IntactLogs.{IsIntactLog}
use Rattle.zk_directory.specs.declared.chain.Turn.{Turn}
use Rattle.zk_directory.specs.declared.chain.Turn.TheVariants.{Take, Skip, Stop}
use Rattle.zk_directory.specs.declared.file.FileEntry.{FileEntry}
use Rattle.zk_directory.specs.declared.file.LogFileFault.{LogFileFault}
use Rattle.zk_directory.specs.declared.intact_log.IntactLog.{IntactLog}
use Rattle.zk_directory.specs.declared.intact_log.Resumption.{Resumption}
use Rattle.zk_directory_state.specs.declared.fault.HistoryFault.{HistoryFault}
use Rattle.zk_directory_state.specs.declared.fault.HistoryFault.TheVariants as history_faults
use Rattle.zk_directory_state.specs.Attempts.{fault_by, log_at}
use Rattle.zk_directory_state.specs.Joins.{decision, told_of}
use Rattle.zk_directory_state.specs.Spans.{moment_of, span_after}
use Rattle.zk_directory_state.specs.declared.restore_fault.RestoreFault.{RestoreFault}
use Rattle.zk_directory_state.specs.declared.restore_fault.RestoreFault.TheVariants as faults
use Rattle.zk_directory_state.specs.declared.span.Moment.{Moment}
use Rattle.zk_directory_state.specs.declared.span.Span.{Span}
use Rattle.zk_directory_state.specs.declared.walk.Loss.{Loss}
use Rattle.zk_directory_state.specs.declared.walk.Walk.{Walk}
use Rattle.zk_log.specs.declared.loaded.Ending.{Ending}
use Rattle.zk_newer_records.specs.declared.newer_record.NewerRecord.{NewerRecord}
use Rattle.zk_newer_records.specs.Folds.{AllFollow}

-- ---- how far

-- how far logs were walked
pub record Walked : Type 0 where
  pub history : History
  -- no transaction was before the first record
  pub is_whole : Bool
  -- the first and the last record
  pub span : Option Span
  -- the zxid in the name of the log in which a damaged place comes after the last record
  pub damaged : Option ℤ
  pub losses : List Loss
  -- the last fault of a log, and the zxid in the name of that log
  pub fault : Option (ℤ × LogFileFault)

-- and the records that were taken
abbrev pub Walking : Type 0
Walking = Walked × List NewerRecord

abbrev pub start_walk : Walked
start_walk = record { history = record { base = None; upto = None; position = None; taken = [] }; is_whole = false; span = None; damaged = None; losses = []; fault = None }

-- ---- one entry

-- nothing is missing before it
abbrev pub is_next : Option ℤ → ℤ → Bool
is_next None zxid = starts_history zxid
is_next (Some position) zxid = int_lt position zxid && int_eq (zxid -ℤ pos 1) position

abbrev pub last_of : Option Span → Option Moment
last_of None = None
last_of (Some span) = Some span.last

-- a damaged place lost what was between the last record and this one
abbrev pub losses_by : Bool → Option ℤ → Option Moment → Moment → List Loss
losses_by true damaged before after = []
losses_by false None before after = []
losses_by false (Some log) before after = (record { log = log; before = before; after = Some after }) ∷ []

-- nothing was before the first record: by its zxid, or since it is the first one of `log.1` or
-- `log.100000001`
abbrev pub begins : ℤ → Option ℤ → ℤ → Bool
begins log None zxid = starts_history zxid || starts_history log
begins log (Some damaged) zxid = starts_history zxid

abbrev pub is_whole_by : Option Span → Bool → Bool → Bool
is_whole_by None is_whole first = first
is_whole_by (Some span) is_whole first = is_whole

-- a record was taken, after the one of the zxid `position`
abbrev pub noted : ℤ → Option ℤ → Walked → FileEntry → Walked
noted log position walked entry = record {
  history = walked.history;
  is_whole = is_whole_by walked.span walked.is_whole (begins log walked.damaged entry.newer.txn.zxid);
  span = Some (span_after walked.span entry.newer);
  damaged = None;
  losses = walked.losses ++ losses_by (is_next position entry.newer.txn.zxid) walked.damaged (last_of walked.span) (moment_of entry.newer);
  fault = walked.fault;
}

abbrev pub with_history : History → Walked → Walked
with_history history walked = record { history = history; is_whole = walked.is_whole; span = walked.span; damaged = walked.damaged; losses = walked.losses; fault = walked.fault }

-- it is a record
abbrev pub with_record : ℤ → Walked → FileEntry → Walked
with_record log walked entry = noted log walked.history.position (with_history (with_entry walked.history (told_of entry)) walked) entry

-- the first of all, and one that does not continue the history where a damaged place comes before it, are
-- records all the same
abbrev pub is_resumed : Option ℤ → RestoreFault → Bool
is_resumed damaged (faults.Purged first) = true
is_resumed (Some log) (faults.Gap from to) = true
is_resumed damaged fault = false

abbrev pub Step : Type 0
Step = Result (Walked × Bool) HistoryFault

abbrev pub step_by : ℤ → Walked → FileEntry → Result Turn RestoreFault → Step
step_by log walked entry (Ok Take) = Ok (with_record log walked entry, true)
step_by log walked entry (Ok Skip) = Ok (walked, false)
step_by log walked entry (Ok Stop) = Ok (walked, false)
step_by log walked entry (Err fault) = if is_resumed walked.damaged fault then Ok (with_record log walked entry, true) else Err (fault_by (pos 0) log fault)

-- the next entry of a log, and whether it is a record: an earlier log may have it
abbrev pub step : ℤ → Walked → FileEntry → Step
step log walked entry = step_by log walked entry (decision walked.history entry)

-- ---- entries

abbrev pub records_by : Bool → List NewerRecord → NewerRecord → List NewerRecord
records_by true records newer = records ++ newer ∷ []
records_by false records newer = records

abbrev pub next_by : List NewerRecord → FileEntry → Step → Result Walking HistoryFault
next_by records entry (Ok next) = Ok (next.0, records_by next.1 records entry.newer)
next_by records entry (Err fault) = Err fault

abbrev pub walk_entry : ℤ → Result Walking HistoryFault → FileEntry → Result Walking HistoryFault
walk_entry log (Ok walking) entry = next_by walking.1 entry (step log walking.0 entry)
walk_entry log (Err fault) entry = Err fault

-- entries in order, up to the first fault
unfoldable pub walk_entries : ℤ → Result Walking HistoryFault → List FileEntry → Result Walking HistoryFault
walk_entries log walking [] = walking
walk_entries log walking (entry ∷ entries) = walk_entries log (walk_entry log walking entry) entries

-- ---- a log

abbrev pub with_damage : ℤ → Walked → Walked
with_damage log walked = record { history = walked.history; is_whole = walked.is_whole; span = walked.span; damaged = Some log; losses = walked.losses; fault = walked.fault }

abbrev pub with_fault : ℤ → LogFileFault → Walked → Walked
with_fault log fault walked = record { history = walked.history; is_whole = walked.is_whole; span = walked.span; damaged = Some log; losses = walked.losses; fault = Some (log, fault) }

abbrev pub damaged_by : ℤ → Result Walking HistoryFault → Result Walking HistoryFault
damaged_by log (Ok walking) = Ok (with_damage log walking.0, walking.1)
damaged_by log (Err fault) = Err fault

-- what is intact after a damaged place
abbrev pub walk_run : ℤ → Result Walking HistoryFault → Resumption → Result Walking HistoryFault
walk_run log walking run = walk_entries log (damaged_by log walking) run.file.entries.items

unfoldable pub walk_runs : ℤ → Result Walking HistoryFault → List Resumption → Result Walking HistoryFault
walk_runs log walking [] = walking
walk_runs log walking (run ∷ runs) = walk_runs log (walk_run log walking run) runs

-- how it ends
abbrev pub outcome_by : Result Ending LogFileFault → Option Resumption → Result Ending LogFileFault
outcome_by outcome None = outcome
outcome_by outcome (Some run) = run.file.outcome

abbrev pub outcome_of : IntactLog → Result Ending LogFileFault
outcome_of file = outcome_by file.first.outcome (slice_get file.later.items (length file.later.items - 1))

abbrev pub walked_to : ℤ → Result Ending LogFileFault → Walked → Walked
walked_to log (Ok ending) walked = walked
walked_to log (Err fault) walked = with_fault log fault walked

abbrev pub ended_by : ℤ → Result Ending LogFileFault → Result Walking HistoryFault → Result Walking HistoryFault
ended_by log outcome (Ok walking) = Ok (walked_to log outcome walking.0, walking.1)
ended_by log outcome (Err fault) = Err fault

-- its entries, what is intact after damaged places, and its end
abbrev pub walk_log : ℤ → Result Walking HistoryFault → IntactLog → Result Walking HistoryFault
walk_log log walking file = ended_by log (outcome_of file) (walk_runs log (walk_entries log walking file.first.entries.items) file.later.items)

-- ---- all logs

-- logs with these zxids in their names, from this place on, lead from a walk to another, or to a fault
abbrev pub WalksLogs : List ℤ → ℕ → List (Bor (List ℕ)) → Result Walking HistoryFault → Result Walking HistoryFault → Type 0
WalksLogs logged place logs (Err fault) end = end ≡ Err fault
WalksLogs logged place [] (Ok walking) end = end ≡ Ok walking
WalksLogs logged place (bytes ∷ logs) (Ok walking) end = (file : IntactLog) × IsIntactLog bytes.now file × WalksLogs logged (place + 1) logs (walk_log (log_at logged place) (Ok walking) file) end

-- all logs lead to this, or the first fault of their entries
abbrev pub AreWalked : List (Bor (List ℕ)) → List ℤ → Result Walking HistoryFault → Type 0
AreWalked logs logged end = WalksLogs logged 0 logs (Ok (start_walk, [])) end

-- ---- the end

-- a damaged place after the last record
abbrev pub last_loss : Option ℤ → Option Moment → List Loss
last_loss None before = []
last_loss (Some log) before = (record { log = log; before = before; after = None }) ∷ []

abbrev pub losses_of : Walked → List Loss
losses_of walked = walked.losses ++ last_loss walked.damaged (last_of walked.span)

-- ---- calls within

abbrev pub walked_by : Walk → Walked
walked_by walk = record { history = history_of walk.chain; is_whole = walk.is_whole; span = walk.span; damaged = walk.damaged; losses = walk.losses.items; fault = walk.fault }

abbrev pub Steps : ℤ → Walked → FileEntry → Walked → Result Bool HistoryFault → Type 0
Steps log old entry new (Ok is_record) = step log old entry ≡ Ok (new, is_record)
Steps log old entry new (Err history_faults.NoMemory) = Unit {0}
Steps log old entry new (Err fault) = step log old entry ≡ Err fault

abbrev pub ResumesBy : ℤ → Walked → FileEntry → RestoreFault → Walked → Result Bool HistoryFault → Type 0
ResumesBy log old entry fault new (Ok is_record) = step_by log old entry (Err fault) ≡ Ok (new, is_record)
ResumesBy log old entry fault new (Err history_faults.NoMemory) = Unit {0}
ResumesBy log old entry fault new (Err other) = step_by log old entry (Err fault) ≡ Err other

-- the fold follows the records that are taken, after any others
abbrev pub Folds : {S : Type 0} → (S → NewerRecord → S → Type 0) → (Result Walking HistoryFault → Result Walking HistoryFault) → Walked → S → Walked → S → Result (Unit {0}) HistoryFault → Type 0
Folds follows walk old fold new fold' (Ok done) = (records : List NewerRecord) × ((front : List NewerRecord) → walk (Ok (old, front)) ≡ Ok (new, front ++ records)) × AllFollow follows fold records fold'
Folds follows walk old fold new fold' (Err history_faults.NoMemory) = Unit {0}
Folds follows walk old fold new fold' (Err fault) = (front : List NewerRecord) → walk (Ok (old, front)) ≡ Err fault

abbrev pub FoldsLog : {S : Type 0} → (S → NewerRecord → S → Type 0) → ℤ → List ℕ → Walked → S → Walked → S → Result (Unit {0}) HistoryFault → Type 0
FoldsLog follows log bytes old fold new fold' (Err history_faults.NoMemory) = Unit {0}
FoldsLog follows log bytes old fold new fold' result = (file : IntactLog) × IsIntactLog bytes file × Folds follows (λ walk. walk_log log walk file) old fold new fold' result

abbrev pub FoldsLogs : {S : Type 0} → (S → NewerRecord → S → Type 0) → List ℤ → List (Bor (List ℕ)) → Walked → S → Walked → S → Result (Unit {0}) HistoryFault → Type 0
FoldsLogs follows logged logs old fold new fold' (Ok done) =
    (records : List NewerRecord) × ((front : List NewerRecord) → WalksLogs logged 0 logs (Ok (old, front)) (Ok (new, front ++ records))) × AllFollow follows fold records fold'
FoldsLogs follows logged logs old fold new fold' (Err history_faults.NoMemory) = Unit {0}
FoldsLogs follows logged logs old fold new fold' (Err fault) = (front : List NewerRecord) → WalksLogs logged 0 logs (Ok (old, front)) (Err fault)
