-- A directory that has files is never rejected as empty.
use Rattle.std.proofs.Common.{◌≡◌, ◌⊎◌, inl, inr, Bool, Bor, cond, true, false, ℕ, zero, suc, ℤ, pos, ◌+◌, ◌<◌, ◌==◌, arith, List, [], ◌∷◌, length, slice_get, Option, Some, None, Result, Ok, Err, refl, sym, ap, subst}
use Rattle.std.proofs.lemmas.Bool.Decides.{nat_tests}
use Rattle.zk_replay.specs.declared.exact.Exact.{Exact}
use Rattle.zk_directory_state.specs.Attempts.{TriesBytes, TriesGiven, attempt_by, attempt_of, fault_by, history_fault, log_at, passed_by, passed_fault}
use Rattle.zk_directory.specs.Continuing.{continues}
use Rattle.zk_directory_state.specs.Evidence.{beyond, end_fault, gap_fault, is_beyond, is_first, is_new, proved, proved_by}
use Rattle.zk_directory_state.specs.Histories.{AnswersFrom, AnswersUpto, AnswersWithout, AreIn, Chooses, ChoosesOf, FindsUpto, Follows, Folders, Holds, HoldsNone, IsHistory, IsUpto, IsWithoutSnapshot, blank_by, blank_fault, candidates, fault_without, first_broken, first_early, first_missing, missing, purged_fault, restored_by, start_fault, upto_by, with_broken, without_by}
use Rattle.zk_directory_state.specs.declared.evidence.Start.{Start}
use Rattle.zk_directory_state.proofs.Unreading.{a_file, a_log, the_logs, the_snapshots}
use Rattle.zk_directory_state.specs.Logs.{AreUnlisted, AreUnreadFiles, IsUnreadIn, IsUnreadLog, logs_from}
use Rattle.zk_directory_state.specs.declared.attempt.Attempt.{Attempt}
use Rattle.zk_directory_state.specs.declared.attempt.Attempt.TheVariants as attempts
use Rattle.zk_directory_state.specs.declared.history.Broken.{Broken}
use Rattle.zk_directory_state.specs.declared.history.Early.{Early}
use Rattle.zk_directory_state.specs.declared.history.Shown.{Shown}
use Rattle.zk_directory_state.specs.declared.upto.Upto.{Upto}
use Rattle.zk_directory_state.specs.declared.upto.Upto.TheVariants.{Last, Zxid, Time}
use Rattle.zk_directory_state.specs.Names.{log_zxid, snapshot_zxid}
use Rattle.zk_directory_state.specs.declared.fault.HistoryFault.{HistoryFault}
use Rattle.zk_directory_state.specs.declared.fault.HistoryFault.TheVariants as faults
use Rattle.zk_directory_state.specs.declared.fault.PassedFault.{PassedFault}
use Rattle.zk_jute.specs.declared.fault.JuteFault.{JuteFault}
use Rattle.zk_directory_state.specs.declared.restored_directory.Restored.{Restored}
use Rattle.zk_directory_state.specs.declared.restore_fault.DirectoryFault.{DirectoryFault}
use Rattle.zk_directory_state.specs.declared.restore_fault.RestoreFault.{RestoreFault}
use Rattle.zk_directory_state.specs.declared.restore_fault.RestoreFault.TheVariants as restore_faults
use Rattle.zk_snapshot.specs.Faults.{fault_of}
use Rattle.zk_snapshot.specs.Reading.{all_of}
use Rattle.zk_snapshot.specs.declared.snapshot.Snapshot.{Snapshot}

abbrev failed_as : (A : Type 0) → HistoryFault → Result A HistoryFault
failed_as A fault = Err fault

same_fault : (A : Type 0) (x y : HistoryFault) → failed_as A x ≡ failed_as A y → x ≡ y
same_fault A x y e = cc e

-- ---- a restoration

pub not_empty : (snapshot log : ℤ) (fault : RestoreFault) → faults.Empty ≡ fault_by snapshot log fault → ⊥
not_empty snapshot log (restore_faults.Purged first) e = cc
not_empty snapshot log (restore_faults.Gap from to) e = cc
not_empty snapshot log (restore_faults.Differs at) e = cc
not_empty snapshot log (restore_faults.Short exact) e = cc
not_empty snapshot log (restore_faults.Early exact) e = cc
not_empty snapshot log (restore_faults.Log fault) e = cc
not_empty snapshot log restore_faults.Tree e = cc
not_empty snapshot log restore_faults.Access e = cc
not_empty snapshot log restore_faults.NoMemory e = cc

failed_not_empty : (failed : DirectoryFault) (snapshot : ℤ) (logged : List ℤ) → failed_as Attempt faults.Empty ≡ failed_as Attempt (history_fault failed snapshot logged) → ⊥
failed_not_empty failed snapshot logged e = not_empty snapshot (log_at logged failed.log) failed.fault (same_fault Attempt faults.Empty (history_fault failed snapshot logged) e)

-- ---- a snapshot

attempt_not_empty : (failed : DirectoryFault) (zxid : ℤ) (logged : List ℤ) (fault : RestoreFault) → Err faults.Empty ≡ attempt_of failed zxid logged fault → ⊥
attempt_not_empty failed zxid logged (restore_faults.Early exact) e = cc
attempt_not_empty failed zxid logged restore_faults.Tree e = cc
attempt_not_empty failed zxid logged restore_faults.Access e = cc
attempt_not_empty failed zxid logged fault e = failed_not_empty failed zxid logged e

answer_not_empty : (exact : Exact) (zxid : ℤ) (logged : List ℤ) (result : Result Restored DirectoryFault) → Err faults.Empty ≡ attempt_by exact zxid logged result → ⊥
answer_not_empty exact zxid logged (Ok restored) e = cc
answer_not_empty exact zxid logged (Err failed) e = attempt_not_empty failed zxid logged failed.fault e

passed_not_empty : (fault : Option PassedFault) → Err faults.Empty ≡ passed_by fault → ⊥
passed_not_empty None e = cc
passed_not_empty (Some fault) e = cc

bytes_not_empty : (log_bytes : List ℕ → Option (List ℕ)) (bytes : List ℕ) (read : Result Snapshot JuteFault) (zxid : ℤ) (upto : Option ℤ) (logged : List ℤ) → TriesBytes log_bytes bytes read zxid upto logged (Err faults.Empty) → ⊥
bytes_not_empty log_bytes bytes (Ok snapshot) zxid upto logged t = answer_not_empty t.leads.exact zxid (logs_from zxid logged) t.leads.result t.leads.answered
bytes_not_empty log_bytes bytes (Err field) zxid upto logged t = passed_not_empty (passed_fault (fault_of bytes field)) t

tries_not_empty : (snapshot_bytes log_bytes : List ℕ → Option (List ℕ)) (zxid : ℤ) (upto : Option ℤ) (logged : List ℤ) → TriesGiven snapshot_bytes log_bytes zxid upto logged (Err faults.Empty) → ⊥
tries_not_empty snapshot_bytes log_bytes zxid upto logged t = bytes_not_empty log_bytes t.bytes (all_of t.bytes) zxid upto logged t.tries

-- ---- without a snapshot

first_not_empty : (zxid : Option ℤ) → first_missing zxid ≡ Some faults.Empty → ⊥
first_not_empty None e = cc
first_not_empty (Some zxid) e = cc

broken_not_empty : (broken : Option Broken) (zxid : Option ℤ) → first_broken broken zxid ≡ Some faults.Empty → ⊥
broken_not_empty None zxid e = first_not_empty zxid e
broken_not_empty (Some broken) zxid e = cc

missing_not_empty : (early : Option Early) (broken : List Broken) (held : List ℤ) → missing early broken held ≡ Some faults.Empty → ⊥
missing_not_empty None broken held e = broken_not_empty (slice_get broken 0) (slice_get held 0) e
missing_not_empty (Some early) broken held e = cc

blank_not_empty : (restored : Restored) (fault : Option HistoryFault) → Err faults.Empty ≡ blank_by restored fault → fault ≡ Some faults.Empty
blank_not_empty restored None e = absurd (cc e)
blank_not_empty restored (Some fault) e = cc

restored_not_empty : (restored : Restored) (fault : Option HistoryFault) (position : Option ℤ) → Err faults.Empty ≡ restored_by restored fault position → fault ≡ Some faults.Empty
restored_not_empty restored fault None e = blank_not_empty restored fault e
restored_not_empty restored fault (Some position) e = absurd (cc e)

fault_not_empty : (early : Option Early) (failed : DirectoryFault) (logged : List ℤ) (fault : RestoreFault) → faults.Empty ≡ fault_without early failed logged fault → ⊥
fault_not_empty (Some early) failed logged (restore_faults.Purged first) e = cc
fault_not_empty early failed logged fault e = not_empty (pos 0) (log_at logged failed.log) failed.fault e

without_not_empty : (held logged : List ℤ) (broken : List Broken) (early : Option Early) (result : Result Restored DirectoryFault) → Err faults.Empty ≡ without_by held logged broken early result → ⊥
without_not_empty held logged broken early (Ok restored) e = missing_not_empty early broken held (restored_not_empty restored (missing early broken held) restored.position e)
without_not_empty held logged broken early (Err failed) e = fault_not_empty early failed logged failed.fault (same_fault Restored faults.Empty (fault_without early failed logged failed.fault) e)

new_not_empty : (new : Bool) → (let none : Option HistoryFault = None in cond new none (Some faults.NoTransaction) ≡ Some faults.Empty) → ⊥
new_not_empty true e = cc
new_not_empty false e = cc

blank_fault_not_empty : (held logged : List ℤ) → blank_fault held logged ≡ Some faults.Empty → ⊥
blank_fault_not_empty [] logged e = new_not_empty (is_new logged) e
blank_fault_not_empty (zxid ∷ held) logged e = cc

purged_not_empty : (early : Option Early) (first : ℤ) → purged_fault early first ≡ faults.Empty → ⊥
purged_not_empty None first e = cc
purged_not_empty (Some early) first e = cc

first_or_not_empty : (first : Bool) (fault : HistoryFault) → (fault ≡ faults.Empty → ⊥) → (let none : Option HistoryFault = None in cond first none (Some fault) ≡ Some faults.Empty) → ⊥
first_or_not_empty true fault never e = cc
first_or_not_empty false fault never e = never (cc e)

start_not_empty : (early : Option Early) (held logged : List ℤ) (start : Option Start) → start_fault early held logged start ≡ Some faults.Empty → ⊥
start_not_empty early held logged None e = blank_fault_not_empty held logged e
start_not_empty early held logged (Some start) e = first_or_not_empty (is_first logged start) (purged_fault early start.zxid) (purged_not_empty early start.zxid) e

from_not_empty : (folders : Folders) (broken : List Broken) (early : Option Early) (logs : List (Bor (List ℕ))) (fault : Option HistoryFault) → (fault ≡ Some faults.Empty → ⊥) → AnswersFrom folders broken early logs fault (Err faults.Empty) → ⊥
from_not_empty folders broken early logs (Some fault) never a = never (ap (λ (f : HistoryFault). let o : Option HistoryFault = Some f in o) (sym (same_fault Restored faults.Empty fault a)))
from_not_empty folders broken early logs None never a = without_not_empty folders.held folders.logged broken early a.0 a.2

-- ---- the snapshots

end_not_empty : (folders : Folders) (broken : List Broken) (early : Option Early) (restored : Result Restored HistoryFault) → IsWithoutSnapshot folders broken early restored → AnswersWithout broken (Err faults.Empty) restored → ⊥
end_not_empty folders broken early (Ok restored) w a = a
end_not_empty folders broken early (Err fault) w a =
    let started = start_fault early folders.held folders.logged w.start in
    from_not_empty folders broken early w.logs started (start_not_empty early folders.held folders.logged w.start)
    (subst (AnswersFrom folders broken early w.logs started) (ap (failed_as Restored) (sym (same_fault Shown faults.Empty fault a))) w.answered)

next_not_empty : (folders : Folders) (zxid : ℤ) (broken : List Broken) (early : Option Early) (next : List Broken → Option Early → Type 0) (attempt : Result Attempt HistoryFault) → TriesGiven folders.snapshot_bytes folders.log_bytes zxid folders.upto folders.logged attempt
    → ((broken : List Broken) (early : Option Early) → next broken early → ⊥) → Follows zxid broken early (Err faults.Empty) next attempt → ⊥
next_not_empty folders zxid broken early next (Ok (attempts.Serves restored exact)) t none f = f
next_not_empty folders zxid broken early next (Ok (attempts.Passed fault)) t none f = none (with_broken broken zxid fault) early f
next_not_empty folders zxid broken early next (Ok (attempts.Early exact)) t none f = none broken (first_early early zxid exact) f
next_not_empty folders zxid broken early next (Err fault) t none f =
    tries_not_empty folders.snapshot_bytes folders.log_bytes zxid folders.upto folders.logged (subst (TriesGiven folders.snapshot_bytes folders.log_bytes zxid folders.upto folders.logged) (ap (failed_as Attempt) (sym (same_fault Shown faults.Empty fault f))) t)

chosen_not_empty : (folders : Folders) (zxids : List ℤ) (broken : List Broken) (early : Option Early) → Chooses folders (Err faults.Empty) zxids broken early → ⊥
chosen_not_empty folders [] broken early c = end_not_empty folders broken early c.0 c.1 c.2
chosen_not_empty folders (zxid ∷ zxids) broken early c = next_not_empty folders zxid broken early (Chooses folders (Err faults.Empty) zxids) c.0 c.1 (chosen_not_empty folders zxids) c.2

-- ---- the directory

pub some_files : (n : ℕ) → false ≡ (n == 0) → 0 < n
some_files zero e = absurd (cc e)
some_files (suc n) e = omega arith

none_left : (n : ℕ) → true ≡ (n == 0) → n ≡ 0
none_left zero e = refl
none_left (suc n) e = grind (arith, nat_tests)

pub no_files : (snapshots logs : Option (List (List ℕ))) (held logged : List ℤ) → AreIn snapshot_zxid snapshots held → AreIn log_zxid logs logged → true ≡ (length held + length logged == 0) → HoldsNone snapshots logs
no_files snapshots logs held logged are_snapshots are_logs e = record { held = held; logged = logged; are_snapshots = are_snapshots; are_logs = are_logs; none = none_left (length held + length logged) e }

-- ---- questions

by_not_empty : (latest : ℤ) (has : Bool) → Err faults.Empty ≡ upto_by latest has → ⊥
by_not_empty latest true e = cc
by_not_empty latest false e = cc

upto_not_empty : (bytes_in : List ℕ → Option (List ℕ)) (logged : List ℤ) (upto : Upto) → IsUpto bytes_in logged upto (Err faults.Empty) → ⊥
upto_not_empty bytes_in logged Last is = cc is
upto_not_empty bytes_in logged (Zxid zxid) is = cc is
upto_not_empty bytes_in logged (Time time) is = by_not_empty is.0 is.2.0 is.2.2

fault_or_not_empty : (is : Bool) (fault : HistoryFault) → (fault ≡ faults.Empty → ⊥) → (let none : Option HistoryFault = None in cond is (Some fault) none ≡ Some faults.Empty) → ⊥
fault_or_not_empty true fault never e = never (cc e)
fault_or_not_empty false fault never e = cc

beyond_not_empty : (restored : Restored) → beyond restored ≡ faults.Empty → ⊥
beyond_not_empty restored e = cc

gap_not_empty : (upto : Upto) (position : Option ℤ) (next : ℤ) → gap_fault upto position next ≡ Some faults.Empty → ⊥
gap_not_empty Last position next e = cc
gap_not_empty (Zxid zxid) position next e = cc
gap_not_empty (Time time) None next e = cc
gap_not_empty (Time time) (Some position) next e = first_or_not_empty (continues position next) (faults.Gap position next) (λ g. cc) e

end_fault_not_empty : (upto : Upto) (restored : Restored) (next : Option ℤ) → end_fault upto restored next ≡ Some faults.Empty → ⊥
end_fault_not_empty upto restored None e = fault_or_not_empty (is_beyond upto restored) (beyond restored) (beyond_not_empty restored) e
end_fault_not_empty upto restored (Some next) e = gap_not_empty upto restored.position next e

module _ (snapshots : Option (List (List ℕ))) (snapshot_bytes : List ℕ → Option (List ℕ)) (logs : Option (List (List ℕ))) (log_bytes : List ℕ → Option (List ℕ)) (upto : Upto) where
  unread_holds : (fault : HistoryFault) → IsUnreadIn snapshots snapshot_bytes logs log_bytes fault → Holds snapshots snapshot_bytes logs log_bytes upto (Err fault)
  unread_holds faults.Empty unread = absurd unread
  unread_holds fault unread = inl unread

  pub snapshots_unlisted : (fault : HistoryFault) → AreUnlisted snapshots fault → Holds snapshots snapshot_bytes logs log_bytes upto (Err fault)
  snapshots_unlisted fault unread = unread_holds fault (the_snapshots snapshot_bytes log_bytes snapshots logs fault unread)

  pub logs_unlisted : (fault : HistoryFault) → AreUnlisted logs fault → Holds snapshots snapshot_bytes logs log_bytes upto (Err fault)
  logs_unlisted fault unread = unread_holds fault (the_logs snapshot_bytes log_bytes snapshots logs fault unread)

  -- a fault that is not that of an empty directory
  holds_fault : (fault : HistoryFault) → (fault ≡ faults.Empty → ⊥) → (h : IsUnreadIn snapshots snapshot_bytes logs log_bytes fault ⊎ IsHistory snapshots snapshot_bytes logs log_bytes upto (Err fault)) → Holds snapshots snapshot_bytes logs log_bytes upto (Err fault)
  holds_fault faults.Empty never h = absurd (never refl)
  holds_fault fault never h = h

  holds_by : (held logged : List ℤ) (zxid : Result (Option ℤ) HistoryFault) (answer : Result Shown HistoryFault) → AreIn snapshot_zxid snapshots held → AreIn log_zxid logs logged → false ≡ (length held + length logged == 0) → IsUpto log_bytes logged upto zxid
      → AnswersUpto snapshot_bytes log_bytes held logged upto zxid answer → IsHistory snapshots snapshot_bytes logs log_bytes upto answer
  holds_by held logged zxid answer are_snapshots are_logs some is_upto answered = record { held = held; logged = logged; are_snapshots = are_snapshots; are_logs = are_logs; some = some_files (length held + length logged) some; zxid = zxid; is_upto = is_upto; answered = answered }

  -- the question has no zxid
  upto_fails_by : (held logged : List ℤ) (fault : HistoryFault) → AreIn snapshot_zxid snapshots held → AreIn log_zxid logs logged → false ≡ (length held + length logged == 0) → (finds : IsUnreadLog log_bytes fault ⊎ IsUpto log_bytes logged upto (Err fault)) → Holds snapshots snapshot_bytes logs log_bytes upto (Err fault)
  upto_fails_by held logged fault are_snapshots are_logs some (inl unread) = unread_holds fault (a_file snapshot_bytes log_bytes snapshots logs fault (a_log snapshot_bytes log_bytes fault unread))
  upto_fails_by held logged fault are_snapshots are_logs some (inr is) =
      holds_fault fault (λ e. upto_not_empty log_bytes logged upto (subst (λ (f : HistoryFault). IsUpto log_bytes logged upto (Err f)) e is)) (inr (holds_by held logged (Err fault) (Err fault) are_snapshots are_logs some is refl))

  pub upto_fails : (held logged : List ℤ) (fault : HistoryFault) → AreIn snapshot_zxid snapshots held → AreIn log_zxid logs logged → false ≡ (length held + length logged == 0) → FindsUpto log_bytes logged upto (Err fault) → Holds snapshots snapshot_bytes logs log_bytes upto (Err fault)
  upto_fails held logged fault are_snapshots are_logs some finds = upto_fails_by held logged fault are_snapshots are_logs some finds

  -- the state that was found is proved, or not
  shown_holds : (shown : Shown) (fault : Option HistoryFault) → (fault ≡ Some faults.Empty → ⊥) → IsHistory snapshots snapshot_bytes logs log_bytes upto (proved_by shown fault) → Holds snapshots snapshot_bytes logs log_bytes upto (proved_by shown fault)
  shown_holds shown None never h = h
  shown_holds shown (Some fault) never h = holds_fault fault (λ e. never (ap (λ (f : HistoryFault). let o : Option HistoryFault = Some f in o) e)) (inr h)

  fails_by : (held logged : List ℤ) (zxid : Option ℤ) (fault : HistoryFault) → AreIn snapshot_zxid snapshots held → AreIn log_zxid logs logged → false ≡ (length held + length logged == 0) → IsUpto log_bytes logged upto (Ok zxid)
      → (c : AreUnreadFiles snapshot_bytes log_bytes fault ⊎ Chooses (record { snapshot_bytes = snapshot_bytes; log_bytes = log_bytes; held = held; logged = logged; upto = zxid }) (Err fault) (candidates zxid held) [] None) → Holds snapshots snapshot_bytes logs log_bytes upto (Err fault)
  fails_by held logged zxid fault are_snapshots are_logs some is_upto (inl unread) = unread_holds fault (a_file snapshot_bytes log_bytes snapshots logs fault unread)
  fails_by held logged zxid fault are_snapshots are_logs some is_upto (inr chosen) =
      let folders : Folders = record { snapshot_bytes = snapshot_bytes; log_bytes = log_bytes; held = held; logged = logged; upto = zxid } in
      holds_fault fault (λ e. chosen_not_empty folders (candidates zxid held) [] None (subst (λ (f : HistoryFault). Chooses folders (Err f) (candidates zxid held) [] None) e chosen))
      (inr (holds_by held logged (Ok zxid) (Err fault) are_snapshots are_logs some is_upto (Err fault, chosen, refl)))

  pub holds : (held logged : List ℤ) (zxid : Option ℤ) (found : Result Shown HistoryFault) → AreIn snapshot_zxid snapshots held → AreIn log_zxid logs logged → false ≡ (length held + length logged == 0) → IsUpto log_bytes logged upto (Ok zxid)
      → ChoosesOf (record { snapshot_bytes = snapshot_bytes; log_bytes = log_bytes; held = held; logged = logged; upto = zxid }) (candidates zxid held) [] None found → Holds snapshots snapshot_bytes logs log_bytes upto (proved upto found)
  holds held logged zxid (Ok shown) are_snapshots are_logs some is_upto chosen =
      shown_holds shown (end_fault upto shown.restored shown.restored.next) (end_fault_not_empty upto shown.restored shown.restored.next)
      (holds_by held logged (Ok zxid) (proved upto (Ok shown)) are_snapshots are_logs some is_upto (Ok shown, chosen, refl))
  holds held logged zxid (Err fault) are_snapshots are_logs some is_upto chosen = fails_by held logged zxid fault are_snapshots are_logs some is_upto chosen

  pub chosen_at : (held held' logged logged' : List ℤ) (zxid : Option ℤ) (begun begun' : List ℤ) (answer : Result Shown HistoryFault) → held' ≡ held → logged' ≡ logged → begun' ≡ begun
      → ChoosesOf (record { snapshot_bytes = snapshot_bytes; log_bytes = log_bytes; held = held'; logged = logged'; upto = zxid }) begun' [] None answer → ChoosesOf (record { snapshot_bytes = snapshot_bytes; log_bytes = log_bytes; held = held; logged = logged; upto = zxid }) begun [] None answer
  chosen_at held held' logged logged' zxid begun begun' answer h l b chosen =
      subst (λ (x : List ℤ). ChoosesOf (record { snapshot_bytes = snapshot_bytes; log_bytes = log_bytes; held = held; logged = logged; upto = zxid }) x [] None answer) b
      (subst (λ (x : List ℤ). ChoosesOf (record { snapshot_bytes = snapshot_bytes; log_bytes = log_bytes; held = held; logged = x; upto = zxid }) begun' [] None answer) l
      (subst (λ (x : List ℤ). ChoosesOf (record { snapshot_bytes = snapshot_bytes; log_bytes = log_bytes; held = x; logged = logged'; upto = zxid }) begun' [] None answer) h chosen))
