-- The records of a directory's logs, each once, from the first that is logged, folded in order.
use Rattle.std.specs.Prelude.{◌≡◌, ◌⊎◌, ◌<◌, ◌+◌, ℕ, ℤ, false, List, [], ◌++◌, length, map, Option, Some, None, Result, Ok, Err, String}
use Rattle.std.specs.Borrow.{Bor}
use Rattle.std.specs.Global.{Global}
use Rattle.std.specs.String.{string_bytes}
use Rattle.zk_directory_state.specs.Histories.{AreIn, HoldsNone}
use Rattle.zk_directory_state.specs.Joins.{Reading}
use Rattle.zk_directory_state.specs.Logs.{AreGiven, AreUnlistedIn, IsUnreadLog, bytes_of}
use Rattle.zk_directory_state.specs.Losses.{AreLossLines}
use Rattle.zk_directory_state.specs.Names.{log_zxid, snapshot_zxid}
use Rattle.zk_directory_state.specs.Spans.{IsRangeNotice, empty_fault, outside_fault}
use Rattle.zk_directory_state.specs.Walks.{AreWalked, Walked, losses_of, walked_by}
use Rattle.zk_directory_state.specs.declared.fault.HistoryFault.{HistoryFault}
use Rattle.zk_directory_state.specs.declared.fault.HistoryFault.TheVariants as faults
use Rattle.zk_directory_state.specs.declared.folded_directory.FoldedDirectory.{FoldedDirectory}
use Rattle.zk_directory_state.specs.declared.range.Range.{Range}
use Rattle.zk_directory_state.specs.declared.span.Span.{Span}
use Rattle.zk_directory_state.specs.declared.walk.Walk.{Walk}
use Rattle.zk_newer_records.specs.declared.newer_record.NewerRecord.{NewerRecord}
use Rattle.zk_newer_records.specs.Folds.{AllFollow}

-- no log was read yet
abbrev pub first_reading : Option ℤ → Reading
first_reading first = record { history = record { base = first; upto = None; position = first; taken = [] }; records = []; window = None; is_over = false }

-- ---- the logs of a directory

-- the zxids in the names of its files, of which there is one, and the bytes of its logs
pub record AreLogsIn (snapshots logs : Option (List (List ℕ))) (log_bytes : List ℕ → Option (List ℕ)) (held logged : List ℤ) (given : List (Bor (List ℕ))) : Type 0 where
  pub are_snapshots : AreIn snapshot_zxid snapshots held
  pub are_logs : AreIn log_zxid logs logged
  pub some : 0 < length held + length logged
  pub are_given : AreGiven log_bytes logged (map bytes_of given)

-- ---- a question about a range

abbrev pub fault_by_span : Range → List ℤ → List ℤ → Walked → Option Span → Option HistoryFault
fault_by_span range held logged walked None = empty_fault walked.fault held logged
fault_by_span range held logged walked (Some span) = outside_fault range walked.is_whole span

-- why a question has no answer
abbrev pub range_fault : Range → List ℤ → List ℤ → Walked → Option HistoryFault
range_fault range held logged walked = fault_by_span range held logged walked walked.span

-- what damaged places lost, and the range of the logs
abbrev pub IsNotice : Range → Walked → List ℕ → Type 0
IsNotice range walked notice = (lost : List ℕ) × (ranged : List ℕ) × AreLossLines (losses_of walked) lost × IsRangeNotice range walked.is_whole walked.span ranged × (notice ≡ lost ++ ranged)

-- the records of these logs answer it, with this notice
pub record AnswersBy (range : Range) (held logged : List ℤ) (given : List (Bor (List ℕ))) (records : List NewerRecord) (notice : List ℕ) : Type 0 where
  pub walked : Walked
  pub are_walked : AreWalked given logged (Ok (walked, records))
  pub answered : range_fault range held logged walked ≡ None
  pub noticed : IsNotice range walked notice

-- it goes wholly beyond them
pub record GoesBeyond (range : Range) (held logged : List ℤ) (given : List (Bor (List ℕ))) (fault : HistoryFault) : Type 0 where
  pub walked : Walked
  pub records : List NewerRecord
  pub are_walked : AreWalked given logged (Ok (walked, records))
  pub beyond : range_fault range held logged walked ≡ Some fault

-- the records of a directory's logs answer it, with this notice
pub record Answers (range : Range) (snapshots logs : Option (List (List ℕ))) (log_bytes : List ℕ → Option (List ℕ)) (records : List NewerRecord) (notice : List ℕ) : Type 0 where
  pub held : List ℤ
  pub logged : List ℤ
  pub given : List (Bor (List ℕ))
  pub are_logs : AreLogsIn snapshots logs log_bytes held logged given
  pub answers : AnswersBy range held logged given records notice

-- an entry does not continue those before it, and no damaged place is between them; or the range lies
-- wholly beyond the logs
pub record RejectsRange (range : Range) (snapshots logs : Option (List (List ℕ))) (log_bytes : List ℕ → Option (List ℕ)) (fault : HistoryFault) : Type 0 where
  pub held : List ℤ
  pub logged : List ℤ
  pub given : List (Bor (List ℕ))
  pub are_logs : AreLogsIn snapshots logs log_bytes held logged given
  pub rejected : AreWalked given logged (Err fault) ⊎ GoesBeyond range held logged given fault

-- why there is no answer: a log or a folder cannot be read, there is no file, the logs do not continue
-- one another, or the range lies wholly beyond them
abbrev pub HaveNoAnswer : Range → Option (List (List ℕ)) → Option (List (List ℕ)) → (List ℕ → Option (List ℕ)) → HistoryFault → Type 0
HaveNoAnswer range snapshots logs log_bytes fault =
    IsUnreadLog log_bytes fault ⊎ (AreUnlistedIn snapshots logs fault ⊎ ((HoldsNone snapshots logs × (fault ≡ faults.Empty)) ⊎ RejectsRange range snapshots logs log_bytes fault))

abbrev pub FoldsDirectory : {S : Type 0} → (S → NewerRecord → S → Type 0) → Range → Option (List (List ℕ)) → Option (List (List ℕ)) → (List ℕ → Option (List ℕ)) → S → Result (FoldedDirectory S) HistoryFault → Type 0
FoldsDirectory follows range snapshots logs log_bytes old (Ok folded) = (records : List NewerRecord) × Answers range snapshots logs log_bytes records (string_bytes folded.notice) × AllFollow follows old records folded.fold
FoldsDirectory follows range snapshots logs log_bytes old (Err fault) = HaveNoAnswer range snapshots logs log_bytes fault

-- ---- calls within

-- all logs were walked
abbrev pub FoldsListed : {S : Type 0} → (S → NewerRecord → S → Type 0) → List (Bor (List ℕ)) → List ℤ → S → S → Result Walk HistoryFault → Type 0
FoldsListed follows logs logged old new (Ok walk) = (records : List NewerRecord) × AreWalked logs logged (Ok (walked_by walk, records)) × AllFollow follows old records new
FoldsListed follows logs logged old new (Err faults.NoMemory) = Unit {0}
FoldsListed follows logs logged old new (Err fault) = AreWalked logs logged (Err fault)

-- the notice on the answer, or why there is none
abbrev pub Notices : Range → List ℤ → List ℤ → Walked → Result (String Global) HistoryFault → Type 0
Notices range held logged walked (Ok notice) = (range_fault range held logged walked ≡ None) × IsNotice range walked (string_bytes notice)
Notices range held logged walked (Err faults.NoMemory) = Unit {0}
Notices range held logged walked (Err fault) = range_fault range held logged walked ≡ Some fault

-- of logs with these zxids in their names, beside snapshots with those
abbrev pub FoldsGiven : {S : Type 0} → (S → NewerRecord → S → Type 0) → Range → List ℤ → List ℤ → List (Bor (List ℕ)) → S → Result (FoldedDirectory S) HistoryFault → Type 0
FoldsGiven follows range held logged logs old (Ok folded) = (records : List NewerRecord) × AnswersBy range held logged logs records (string_bytes folded.notice) × AllFollow follows old records folded.fold
FoldsGiven follows range held logged logs old (Err faults.NoMemory) = Unit {0}
FoldsGiven follows range held logged logs old (Err fault) = AreWalked logs logged (Err fault) ⊎ GoesBeyond range held logged logs fault
