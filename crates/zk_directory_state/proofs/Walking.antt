-- The records of logs, folded on both sides of damaged places.
use Rattle.std.proofs.Common.{◌≡◌, ℕ, ℤ, pos, ◌+◌, ◌-◌, ◌<◌, ◌≤◌, Bool, true, false, List, [], ◌∷◌, ◌++◌, length, map, drop, take, get_or, Option, Some, None, Result, Ok, Err, refl, sym, ap, ◌∙◌, subst, append_assoc, append-nil}
use Rattle.std.proofs.lemmas.List.{drop_more, take_all}
use Rattle.std.specs.Borrow.{Bor}
use Rattle.zk_directory.specs.IntactLogs.{IsIntactLog}
use Rattle.zk_directory.specs.declared.file.FileEntry.{FileEntry}
use Rattle.zk_directory.specs.declared.file.LogFileFault.{LogFileFault}
use Rattle.zk_directory.specs.declared.intact_log.IntactLog.{IntactLog}
use Rattle.zk_directory.specs.declared.intact_log.Resumption.{Resumption}
use Rattle.zk_directory_state.specs.declared.fault.HistoryFault.{HistoryFault}
use Rattle.zk_directory_state.specs.declared.fault.HistoryFault.TheVariants as history_faults
use Rattle.zk_directory_state.proofs.TakenFiles.{no_bytes}
use Rattle.zk_directory_state.specs.Attempts.{log_at}
use Rattle.zk_directory_state.specs.Walks.{Folds, FoldsLog, FoldsLogs, Steps, Walked, Walking, WalksLogs, ended_by, next_by, outcome_of, records_by, walk_entries, walk_entry, walk_log, walk_run, walk_runs, walked_to, with_damage}
use Rattle.zk_log.specs.declared.loaded.Ending.{Ending}
use Rattle.zk_newer_records.specs.declared.newer_record.NewerRecord.{NewerRecord}
use Rattle.zk_newer_records.proofs.Followed.{more_follow, one_follows}
use Rattle.zk_newer_records.specs.Folds.{AllFollow}
use Rattle.zk_replay.proofs.Turning.{next_is, at_end}

-- ---- one entry

pub taken_folds : {S : Type 0} (follows : S → NewerRecord → S → Type 0) (log : ℤ) (old new : Walked) (entry : FileEntry) (is_record : Bool) (fold fold' : S) → true ≡ is_record → Steps log old entry new (Ok is_record) → follows fold entry.newer fold' → Folds follows (λ walk. walk_entry log walk entry) old fold new fold' (Ok tt)
taken_folds follows log old new entry is_record fold fold' e s f =
    (entry.newer ∷ [], λ front. ap (next_by front entry) s ∙ ap (λ (b : Bool). let w : Result Walking HistoryFault = Ok (new, records_by b front entry.newer) in w) (sym e), one_follows follows fold fold' entry.newer f)

pub skipped_folds : {S : Type 0} (follows : S → NewerRecord → S → Type 0) (log : ℤ) (old new : Walked) (entry : FileEntry) (is_record : Bool) (fold : S) → false ≡ is_record → Steps log old entry new (Ok is_record) → Folds follows (λ walk. walk_entry log walk entry) old fold new fold (Ok tt)
skipped_folds follows log old new entry is_record fold e s = (
  [],
  λ front.
      ap (next_by front entry) s
      ∙ ap (λ (b : Bool). let w : Result Walking HistoryFault = Ok (new, records_by b front entry.newer) in w) (sym e)
      ∙ ap (λ (l : List NewerRecord). let w : Result Walking HistoryFault = Ok (new, l) in w) (sym (append-nil front)),
  refl,
)

pub rejected_folds : {S : Type 0} (follows : S → NewerRecord → S → Type 0) (log : ℤ) (old new : Walked) (entry : FileEntry) (fold fold' : S) (fault : HistoryFault) → Steps log old entry new (Err fault) → Folds follows (λ walk. walk_entry log walk entry) old fold new fold' (Err fault)
rejected_folds follows log old new entry fold fold' history_faults.NoMemory s = tt
rejected_folds follows log old new entry fold fold' fault s = λ front. ap (next_by front entry) s

-- ---- entries in order

no_entries : (log : ℤ) (walk : Result Walking HistoryFault) → walk_entries log walk [] ≡ walk
unfolding walk_entries
no_entries log walk = refl

first_then : (log : ℤ) (walk : Result Walking HistoryFault) (entry : FileEntry) (entries : List FileEntry) → walk_entries log walk (entry ∷ entries) ≡ walk_entries log (walk_entry log walk entry) entries
unfolding walk_entries
first_then log walk entry entries = refl

-- after a fault none is read
broken : (log : ℤ) (fault : HistoryFault) (entries : List FileEntry) → walk_entries log (Err fault) entries ≡ Err fault
broken log fault [] = no_entries log (Err fault)
broken log fault (entry ∷ entries) = first_then log (Err fault) entry entries ∙ broken log fault entries

-- the entries before the place i were folded
pub record AreFoldedTo {S : Type 0} (follows : S → NewerRecord → S → Type 0) (log : ℤ) (start : Walked) (fold : S) (entries : List FileEntry) (i : ℕ) (now : Walked) (fold' : S) : Type 0 where
  pub records : List NewerRecord
  pub walk : (front : List NewerRecord) → walk_entries log (Ok (start, front)) entries ≡ walk_entries log (Ok (now, front ++ records)) (drop i entries)
  pub all : AllFollow follows fold records fold'

pub none_folded : {S : Type 0} (follows : S → NewerRecord → S → Type 0) (log : ℤ) (start : Walked) (fold : S) (entries : List FileEntry) → AreFoldedTo follows log start fold entries 0 start fold
none_folded follows log start fold entries = record { records = []; walk = λ front. ap (λ (l : List NewerRecord). walk_entries log (Ok (start, l)) entries) (sym (append-nil front)); all = refl }

-- the walk from the entry at i on
from_entry : {S : Type 0} (follows : S → NewerRecord → S → Type 0) (log : ℤ) (start : Walked) (fold : S) (entries : List FileEntry) (i : ℕ) (now : Walked) (fold' : S) (entry : FileEntry) (front : List NewerRecord) → i < length entries → entry ≡ get_or entries i entry → (so_far : AreFoldedTo follows log start fold entries i now fold')
    → walk_entries log (Ok (start, front)) entries ≡ walk_entries log (walk_entry log (Ok (now, front ++ so_far.records)) entry) (drop (i + 1) entries)
from_entry follows log start fold entries i now fold' entry front lt is so_far =
    so_far.walk front
    ∙ ap (walk_entries log (Ok (now, front ++ so_far.records))) (next_is entries i entry lt is)
    ∙ first_then log (Ok (now, front ++ so_far.records)) entry (drop (i + 1) entries)

pub next_folded : {S : Type 0} (follows : S → NewerRecord → S → Type 0) (log : ℤ) (start : Walked) (fold : S) (entries : List FileEntry) (i : ℕ) (old new : Walked) (now now' : S) (entry : FileEntry) → i < length entries → entry ≡ get_or entries i entry → AreFoldedTo follows log start fold entries i old now
    → Folds follows (λ walk. walk_entry log walk entry) old now new now' (Ok tt) → AreFoldedTo follows log start fold entries (i + 1) new now'
next_folded follows log start fold entries i old new now now' entry lt is so_far one = record {
  records = so_far.records ++ one.0;
  walk = λ front.
      from_entry follows log start fold entries i old now entry front lt is so_far
      ∙ ap (λ (w : Result Walking HistoryFault). walk_entries log w (drop (i + 1) entries)) (one.1 (front ++ so_far.records))
      ∙ ap (λ (l : List NewerRecord). walk_entries log (Ok (new, l)) (drop (i + 1) entries)) (append_assoc front so_far.records one.0);
  all = more_follow follows fold now now' so_far.records one.0 so_far.all one.2;
}

pub all_folded : {S : Type 0} (follows : S → NewerRecord → S → Type 0) (log : ℤ) (start : Walked) (fold : S) (entries : List FileEntry) (i : ℕ) (now : Walked) (fold' : S) → length entries ≤ i → AreFoldedTo follows log start fold entries i now fold' → Folds follows (λ walk. walk_entries log walk entries) start fold now fold' (Ok tt)
all_folded follows log start fold entries i now fold' le so_far = (
  so_far.records,
  λ front. so_far.walk front ∙ ap (walk_entries log (Ok (now, front ++ so_far.records))) (at_end entries i le) ∙ no_entries log (Ok (now, front ++ so_far.records)),
  so_far.all,
)

breaks_at : {S : Type 0} (follows : S → NewerRecord → S → Type 0) (log : ℤ) (start : Walked) (fold : S) (entries : List FileEntry) (i : ℕ) (old : Walked) (now : S) (entry : FileEntry) (fault : HistoryFault) (front : List NewerRecord) → i < length entries → entry ≡ get_or entries i entry → AreFoldedTo follows log start fold entries i old now
    → ((front : List NewerRecord) → walk_entry log (Ok (old, front)) entry ≡ Err fault) → walk_entries log (Ok (start, front)) entries ≡ Err fault
breaks_at follows log start fold entries i old now entry fault front lt is so_far one =
    from_entry follows log start fold entries i old now entry front lt is so_far
    ∙ ap (λ (w : Result Walking HistoryFault). walk_entries log w (drop (i + 1) entries)) (one (front ++ so_far.records))
    ∙ broken log fault (drop (i + 1) entries)

pub breaks_folding : {S : Type 0} (follows : S → NewerRecord → S → Type 0) (log : ℤ) (start : Walked) (fold : S) (entries : List FileEntry) (i : ℕ) (old new : Walked) (now now' : S) (entry : FileEntry) (fault : HistoryFault) → i < length entries → entry ≡ get_or entries i entry → AreFoldedTo follows log start fold entries i old now
    → Folds follows (λ walk. walk_entry log walk entry) old now new now' (Err fault) → Folds follows (λ walk. walk_entries log walk entries) start fold new now' (Err fault)
breaks_folding follows log start fold entries i old new now now' entry history_faults.NoMemory lt is so_far one = tt
breaks_folding follows log start fold entries i old new now now' entry fault lt is so_far one = λ front. breaks_at follows log start fold entries i old now entry fault front lt is so_far one

-- ---- what is intact after damaged places

no_runs : (log : ℤ) (walk : Result Walking HistoryFault) → walk_runs log walk [] ≡ walk
unfolding walk_runs
no_runs log walk = refl

run_then : (log : ℤ) (walk : Result Walking HistoryFault) (run : Resumption) (runs : List Resumption) → walk_runs log walk (run ∷ runs) ≡ walk_runs log (walk_run log walk run) runs
unfolding walk_runs
run_then log walk run runs = refl

broken_runs : (log : ℤ) (fault : HistoryFault) (runs : List Resumption) → walk_runs log (Err fault) runs ≡ Err fault
broken_runs log fault [] = no_runs log (Err fault)
broken_runs log fault (run ∷ runs) = run_then log (Err fault) run runs ∙ ap (λ (w : Result Walking HistoryFault). walk_runs log w runs) (broken log fault run.file.entries.items) ∙ broken_runs log fault runs

-- the runs before the place i were folded
pub record AreRunsTo {S : Type 0} (follows : S → NewerRecord → S → Type 0) (log : ℤ) (start : Walked) (fold : S) (runs : List Resumption) (i : ℕ) (now : Walked) (fold' : S) : Type 0 where
  pub records : List NewerRecord
  pub walk : (front : List NewerRecord) → walk_runs log (Ok (start, front)) runs ≡ walk_runs log (Ok (now, front ++ records)) (drop i runs)
  pub all : AllFollow follows fold records fold'

pub none_runs : {S : Type 0} (follows : S → NewerRecord → S → Type 0) (log : ℤ) (start : Walked) (fold : S) (runs : List Resumption) → AreRunsTo follows log start fold runs 0 start fold
none_runs follows log start fold runs = record { records = []; walk = λ front. ap (λ (l : List NewerRecord). walk_runs log (Ok (start, l)) runs) (sym (append-nil front)); all = refl }

from_run : {S : Type 0} (follows : S → NewerRecord → S → Type 0) (log : ℤ) (start : Walked) (fold : S) (runs : List Resumption) (i : ℕ) (now : Walked) (fold' : S) (run : Resumption) (front : List NewerRecord) → i < length runs → run ≡ get_or runs i run → (so_far : AreRunsTo follows log start fold runs i now fold')
    → walk_runs log (Ok (start, front)) runs ≡ walk_runs log (walk_run log (Ok (now, front ++ so_far.records)) run) (drop (i + 1) runs)
from_run follows log start fold runs i now fold' run front lt is so_far =
    so_far.walk front
    ∙ ap (walk_runs log (Ok (now, front ++ so_far.records))) (next_is runs i run lt is)
    ∙ run_then log (Ok (now, front ++ so_far.records)) run (drop (i + 1) runs)

pub next_runs : {S : Type 0} (follows : S → NewerRecord → S → Type 0) (log : ℤ) (start : Walked) (fold : S) (runs : List Resumption) (i : ℕ) (old new : Walked) (now now' : S) (run : Resumption) → i < length runs → run ≡ get_or runs i run → AreRunsTo follows log start fold runs i old now
    → Folds follows (λ walk. walk_run log walk run) old now new now' (Ok tt) → AreRunsTo follows log start fold runs (i + 1) new now'
next_runs follows log start fold runs i old new now now' run lt is so_far one = record {
  records = so_far.records ++ one.0;
  walk = λ front.
      from_run follows log start fold runs i old now run front lt is so_far
      ∙ ap (λ (w : Result Walking HistoryFault). walk_runs log w (drop (i + 1) runs)) (one.1 (front ++ so_far.records))
      ∙ ap (λ (l : List NewerRecord). walk_runs log (Ok (new, l)) (drop (i + 1) runs)) (append_assoc front so_far.records one.0);
  all = more_follow follows fold now now' so_far.records one.0 so_far.all one.2;
}

pub all_runs : {S : Type 0} (follows : S → NewerRecord → S → Type 0) (log : ℤ) (start : Walked) (fold : S) (runs : List Resumption) (i : ℕ) (now : Walked) (fold' : S) → length runs ≤ i → AreRunsTo follows log start fold runs i now fold' → Folds follows (λ walk. walk_runs log walk runs) start fold now fold' (Ok tt)
all_runs follows log start fold runs i now fold' le so_far = (
  so_far.records,
  λ front. so_far.walk front ∙ ap (walk_runs log (Ok (now, front ++ so_far.records))) (at_end runs i le) ∙ no_runs log (Ok (now, front ++ so_far.records)),
  so_far.all,
)

breaks_run : {S : Type 0} (follows : S → NewerRecord → S → Type 0) (log : ℤ) (start : Walked) (fold : S) (runs : List Resumption) (i : ℕ) (old : Walked) (now : S) (run : Resumption) (fault : HistoryFault) (front : List NewerRecord) → i < length runs → run ≡ get_or runs i run → AreRunsTo follows log start fold runs i old now
    → ((front : List NewerRecord) → walk_run log (Ok (old, front)) run ≡ Err fault) → walk_runs log (Ok (start, front)) runs ≡ Err fault
breaks_run follows log start fold runs i old now run fault front lt is so_far one =
    from_run follows log start fold runs i old now run front lt is so_far
    ∙ ap (λ (w : Result Walking HistoryFault). walk_runs log w (drop (i + 1) runs)) (one (front ++ so_far.records))
    ∙ broken_runs log fault (drop (i + 1) runs)

pub breaks_runs : {S : Type 0} (follows : S → NewerRecord → S → Type 0) (log : ℤ) (start : Walked) (fold : S) (runs : List Resumption) (i : ℕ) (old new : Walked) (now now' : S) (run : Resumption) (fault : HistoryFault) → i < length runs → run ≡ get_or runs i run → AreRunsTo follows log start fold runs i old now
    → Folds follows (λ walk. walk_run log walk run) old now new now' (Err fault) → Folds follows (λ walk. walk_runs log walk runs) start fold new now' (Err fault)
breaks_runs follows log start fold runs i old new now now' run history_faults.NoMemory lt is so_far one = tt
breaks_runs follows log start fold runs i old new now now' run fault lt is so_far one = λ front. breaks_run follows log start fold runs i old now run fault front lt is so_far one

-- ---- a log

pub run_folds : {S : Type 0} (follows : S → NewerRecord → S → Type 0) (log : ℤ) (old marked new : Walked) (run : Resumption) (fold fold' : S) (result : Result (Unit {0}) HistoryFault) → marked ≡ with_damage log old → Folds follows (λ walk. walk_entries log walk run.file.entries.items) marked fold new fold' result
    → Folds follows (λ walk. walk_run log walk run) old fold new fold' result
run_folds follows log old marked new run fold fold' (Ok done) is f = (f.0, λ front. ap (λ (w : Walked). walk_entries log (Ok (w, front)) run.file.entries.items) (sym is) ∙ f.1 front, f.2)
run_folds follows log old marked new run fold fold' (Err history_faults.NoMemory) is f = tt
run_folds follows log old marked new run fold fold' (Err fault) is f = λ front. ap (λ (w : Walked). walk_entries log (Ok (w, front)) run.file.entries.items) (sym is) ∙ f front

-- its entries hold a fault
pub entries_break : {S : Type 0} (follows : S → NewerRecord → S → Type 0) (log : ℤ) (old new : Walked) (file : IntactLog) (fold fold' : S) (fault : HistoryFault) → Folds follows (λ walk. walk_entries log walk file.first.entries.items) old fold new fold' (Err fault) → Folds follows (λ walk. walk_log log walk file) old fold new fold' (Err fault)
entries_break follows log old new file fold fold' history_faults.NoMemory f = tt
entries_break follows log old new file fold fold' fault f = λ front.
    ap (λ (w : Result Walking HistoryFault). ended_by log (outcome_of file) (walk_runs log w file.later.items)) (f front) ∙ ap (ended_by log (outcome_of file)) (broken_runs log fault file.later.items)

-- or what is intact after damaged places
pub runs_break : {S : Type 0} (follows : S → NewerRecord → S → Type 0) (log : ℤ) (old middle new : Walked) (file : IntactLog) (fold fold' fold'' : S) (fault : HistoryFault) → Folds follows (λ walk. walk_entries log walk file.first.entries.items) old fold middle fold' (Ok tt) → Folds follows (λ walk. walk_runs log walk file.later.items) middle fold' new fold'' (Err fault)
    → Folds follows (λ walk. walk_log log walk file) old fold new fold'' (Err fault)
runs_break follows log old middle new file fold fold' fold'' history_faults.NoMemory f r = tt
runs_break follows log old middle new file fold fold' fold'' fault f r = λ front.
    ap (λ (w : Result Walking HistoryFault). ended_by log (outcome_of file) (walk_runs log w file.later.items)) (f.1 front) ∙ ap (ended_by log (outcome_of file)) (r (front ++ f.0))

pub file_folds : {S : Type 0} (follows : S → NewerRecord → S → Type 0) (log : ℤ) (old middle last new : Walked) (file : IntactLog) (fold fold' fold'' : S) → Folds follows (λ walk. walk_entries log walk file.first.entries.items) old fold middle fold' (Ok tt) → Folds follows (λ walk. walk_runs log walk file.later.items) middle fold' last fold'' (Ok tt)
    → new ≡ walked_to log (outcome_of file) last → Folds follows (λ walk. walk_log log walk file) old fold new fold'' (Ok tt)
file_folds follows log old middle last new file fold fold' fold'' f r is = (
  f.0 ++ r.0,
  λ front.
      ap (λ (w : Result Walking HistoryFault). ended_by log (outcome_of file) (walk_runs log w file.later.items)) (f.1 front)
      ∙ ap (ended_by log (outcome_of file)) (r.1 (front ++ f.0))
      ∙ ap (λ (w : Walked). let x : Result Walking HistoryFault = Ok (w, (front ++ f.0) ++ r.0) in x) (sym is)
      ∙ ap (λ (l : List NewerRecord). let x : Result Walking HistoryFault = Ok (new, l) in x) (append_assoc front f.0 r.0),
  more_follow follows fold fold' fold'' f.0 r.0 f.2 r.2,
)

pub log_folds : {S : Type 0} (follows : S → NewerRecord → S → Type 0) (log : ℤ) (bytes : List ℕ) (old new : Walked) (file : IntactLog) (fold fold' : S) (result : Result (Unit {0}) HistoryFault) → IsIntactLog bytes file → Folds follows (λ walk. walk_log log walk file) old fold new fold' result → FoldsLog follows log bytes old fold new fold' result
log_folds follows log bytes old new file fold fold' (Ok done) is f = (file, is, f)
log_folds follows log bytes old new file fold fold' (Err history_faults.NoMemory) is f = tt
log_folds follows log bytes old new file fold fold' (Err fault) is f = (file, is, f)

-- ---- logs

-- the logs before the place i were folded
pub record AreLogsTo {S : Type 0} (follows : S → NewerRecord → S → Type 0) (logged : List ℤ) (start : Walked) (fold : S) (logs : List (Bor (List ℕ))) (i : ℕ) (now : Walked) (fold' : S) : Type 0 where
  pub records : List NewerRecord
  pub walk : (front : List NewerRecord) (end : Result Walking HistoryFault) → WalksLogs logged i (drop i logs) (Ok (now, front ++ records)) end → WalksLogs logged 0 logs (Ok (start, front)) end
  pub all : AllFollow follows fold records fold'

pub no_log : {S : Type 0} (follows : S → NewerRecord → S → Type 0) (logged : List ℤ) (start : Walked) (fold : S) (logs : List (Bor (List ℕ))) → AreLogsTo follows logged start fold logs 0 start fold
no_log follows logged start fold logs = record { records = []; walk = λ front end h. subst (λ (l : List NewerRecord). WalksLogs logged 0 logs (Ok (start, l)) end) (append-nil front) h; all = refl }

-- the log at i leads on
log_then : (logged : List ℤ) (logs : List (Bor (List ℕ))) (i : ℕ) (now : Walked) (front : List NewerRecord) (file : IntactLog) (middle end : Result Walking HistoryFault) → i < length logs → IsIntactLog (get_or logs i no_bytes).now file → walk_log (log_at logged i) (Ok (now, front)) file ≡ middle → WalksLogs logged (i + 1) (drop (i + 1) logs) middle end → WalksLogs logged i (drop i logs) (Ok (now, front)) end
log_then logged logs i now front file middle end lt is one rest =
    subst (λ (l : List (Bor (List ℕ))). WalksLogs logged i l (Ok (now, front)) end) (sym (drop_more logs i no_bytes lt)) (file, is, subst (λ (m : Result Walking HistoryFault). WalksLogs logged (i + 1) (drop (i + 1) logs) m end) (sym one) rest)

pub next_log : {S : Type 0} (follows : S → NewerRecord → S → Type 0) (logged : List ℤ) (start : Walked) (fold : S) (logs : List (Bor (List ℕ))) (i : ℕ) (old new : Walked) (now now' : S) → i < length logs → AreLogsTo follows logged start fold logs i old now → FoldsLog follows (log_at logged i) (get_or logs i no_bytes).now old now new now' (Ok tt)
    → AreLogsTo follows logged start fold logs (i + 1) new now'
next_log follows logged start fold logs i old new now now' lt so_far log = record {
  records = so_far.records ++ log.2.0;
  walk = λ front end h.
      so_far.walk front end (log_then logged logs i old (front ++ so_far.records) log.0 (Ok (new, (front ++ so_far.records) ++ log.2.0)) end lt log.1 (log.2.1 (front ++ so_far.records))
      (subst (λ (l : List NewerRecord). WalksLogs logged (i + 1) (drop (i + 1) logs) (Ok (new, l)) end) (sym (append_assoc front so_far.records log.2.0)) h));
  all = more_follow follows fold now now' so_far.records log.2.0 so_far.all log.2.2;
}

pub all_logs : {S : Type 0} (follows : S → NewerRecord → S → Type 0) (logged : List ℤ) (start : Walked) (fold : S) (logs : List (Bor (List ℕ))) (i : ℕ) (now : Walked) (fold' : S) → length logs ≤ i → AreLogsTo follows logged start fold logs i now fold' → FoldsLogs follows logged logs start fold now fold' (Ok tt)
all_logs follows logged start fold logs i now fold' le so_far = (
  so_far.records,
  λ front. so_far.walk front (Ok (now, front ++ so_far.records)) (subst (λ (l : List (Bor (List ℕ))). WalksLogs logged i l (Ok (now, front ++ so_far.records)) (Ok (now, front ++ so_far.records))) (sym (at_end logs i le)) refl),
  so_far.all,
)

log_breaks : {S : Type 0} (follows : S → NewerRecord → S → Type 0) (logged : List ℤ) (start old : Walked) (fold now : S) (logs : List (Bor (List ℕ))) (i : ℕ) (fault : HistoryFault) (file : IntactLog) (front : List NewerRecord) → i < length logs → AreLogsTo follows logged start fold logs i old now → IsIntactLog (get_or logs i no_bytes).now file
    → ((front : List NewerRecord) → walk_log (log_at logged i) (Ok (old, front)) file ≡ Err fault) → WalksLogs logged 0 logs (Ok (start, front)) (Err fault)
log_breaks follows logged start old fold now logs i fault file front lt so_far is one =
    so_far.walk front (Err fault) (log_then logged logs i old (front ++ so_far.records) file (Err fault) (Err fault) lt is (one (front ++ so_far.records)) refl)

pub log_fails : {S : Type 0} (follows : S → NewerRecord → S → Type 0) (logged : List ℤ) (start old new : Walked) (fold now now' : S) (logs : List (Bor (List ℕ))) (i : ℕ) (fault : HistoryFault) → i < length logs → AreLogsTo follows logged start fold logs i old now → FoldsLog follows (log_at logged i) (get_or logs i no_bytes).now old now new now' (Err fault)
    → FoldsLogs follows logged logs start fold new now' (Err fault)
log_fails follows logged start old new fold now now' logs i history_faults.NoMemory lt so_far log = tt
log_fails follows logged start old new fold now now' logs i fault lt so_far log = λ front. log_breaks follows logged start old fold now logs i fault log.0 front lt so_far log.1 log.2
