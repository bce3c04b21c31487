-- The entries of a file, one after another.
use Rattle.std.proofs.Common.{◌≡◌, ◌≢◌, ℕ, ℤ, ◌+◌, ◌<◌, ◌≤◌, Bool, true, false, cond, List, [], ◌∷◌, ◌++◌, length, drop, get_or, Some, None, Result, Ok, Err, refl, sym, ap, ◌∙◌, subst}
use Rattle.std.specs.Prelude.{int_le}
use Rattle.zk_replay.specs.Bases.{IsFault}
use Rattle.zk_replay.specs.declared.draft.Draft.{Draft}
use Rattle.zk_replay.proofs.Turning.{next_is, at_end}
use Rattle.zk_replay.specs.declared.fault.BaseFault.{BaseFault}
use Rattle.zk_replay.specs.declared.fault.BaseFault.TheVariants as bases
use Rattle.zk_directory.specs.Chains.{History, after_turn, history_of, turn_of}
use Rattle.zk_directory.specs.declared.chain.ChainFault.{ChainFault}
use Rattle.zk_directory.specs.declared.chain.ChainFault.TheVariants as chains
use Rattle.zk_directory.specs.declared.chain.Turn.{Turn}
use Rattle.zk_directory.specs.declared.chain.Turn.TheVariants.{Take, Skip, Stop}
use Rattle.zk_directory.specs.declared.file.FileEntry.{FileEntry}
use Rattle.zk_log.specs.declared.loaded.Ending.{Ending}
use Rattle.zk_directory.specs.declared.file.LogFile.{LogFile}
use Rattle.zk_directory.specs.declared.file.LogFileFault.{LogFileFault}
use Rattle.zk_newer_records.specs.declared.newer_record.NewerRecord.{NewerRecord}
use Rattle.zk_replay.specs.Restoring.{Takes, TakesInWindow, take_fault}
use Rattle.zk_replay.specs.declared.stage.Stage.{Stage}
use Rattle.zk_replay.specs.declared.stage.Stage.TheVariants as stages
use Rattle.zk_directory_state.proofs.Tallying.{none_counted, one_counted, same_counted}
use Rattle.zk_directory_state.proofs.Leading.{draft_is, no_records, one_more}
use Rattle.zk_directory_state.specs.Joins.{Reading, TakesEntry, Window, decided, decision, end_of, ended_by, fault_of_base, is_wanted, leaving_fault, read_by, read_end, read_entries, read_entry, read_file, read_next, taken_by, told_of, window_after}
use Rattle.zk_directory_state.specs.Restorations.{Follows, Goes, GoesThrough, IsAfterEntry, IsAfterFile, IsFaultOf, Replays, reading_of, reading_with, window_of}
use Rattle.zk_directory_state.specs.States.{replayed_one}
use Rattle.zk_directory_state.specs.declared.restore_fault.RestoreFault.{RestoreFault}
use Rattle.zk_directory_state.specs.declared.restore_fault.RestoreFault.TheVariants as faults
use Rattle.zk_directory_state.specs.declared.restoration.Restore.{Restore}

err_is : {T E : Type 0} (one other : E) → (let r : Result T E = Err one in r ≡ Err other) → one ≡ other
err_is one other e = cc

ok_is_no_err : {T E : Type 0} (one : T) (other : E) → (let r : Result T E = Ok one in r ≡ Err other) → ⊥
ok_is_no_err one other e = cc

-- a reading that goes on
abbrev pub going : History → List NewerRecord → Window → Reading
going history records window = record { history = history; records = records; window = window; is_over = false }

abbrev pub over : History → List NewerRecord → Window → Reading
over history records window = record { history = history; records = records; window = window; is_over = true }

pub read_on : (reading : Reading) (entry : FileEntry) (entries : List FileEntry) → read_entries (Ok reading) (entry ∷ entries) ≡ read_entries (read_entry reading entry) entries
unfolding read_entries
read_on reading entry entries = refl

pub read_step : (read : Result Reading RestoreFault) (entry : FileEntry) (entries : List FileEntry) → read_entries read (entry ∷ entries) ≡ read_entries (read_next read entry) entries
unfolding read_entries
read_step read entry entries = refl

pub none_left : (read : Result Reading RestoreFault) → read_entries read [] ≡ read
unfolding read_entries
none_left read = refl

pub broken : (fault : RestoreFault) (entries : List FileEntry) → read_entries (Err fault) entries ≡ Err fault
broken fault [] = none_left (Err fault)
broken fault (entry ∷ entries) = read_step (Err fault) entry entries ∙ broken fault entries

-- reading that is over stays so
pub stays_over : (history : History) (records : List NewerRecord) (window : Window) (entries : List FileEntry) → read_entries (Ok (over history records window)) entries ≡ Ok (over history records window)
stays_over history records window [] = none_left (Ok (over history records window))
stays_over history records window (entry ∷ entries) = read_on (over history records window) entry entries ∙ stays_over history records window entries

-- one entry more
pub takes_one : (history next : History) (records : List NewerRecord) (window : Window) (entry : FileEntry) (entries : List FileEntry) → decision history entry ≡ Ok Take → leaving_fault window entry.newer ≡ None → next ≡ after_turn history (told_of entry) Take
    → read_entries (Ok (going history records window)) (entry ∷ entries) ≡ read_entries (Ok (going next (records ++ entry.newer ∷ []) (window_after window entry.newer))) entries
takes_one history next records window entry entries d sound n =
    read_on (going history records window) entry entries
    ∙ ap (λ r. read_entries (read_by (going history records window) entry r) entries) d
    ∙ ap (λ f. read_entries (taken_by (going history records window) entry f) entries) sound
    ∙ ap (λ h. read_entries (Ok (going h (records ++ entry.newer ∷ []) (window_after window entry.newer))) entries) (sym n)

pub skips_one : (history next : History) (records : List NewerRecord) (window : Window) (entry : FileEntry) (entries : List FileEntry) → decision history entry ≡ Ok Skip → next ≡ history
    → read_entries (Ok (going history records window)) (entry ∷ entries) ≡ read_entries (Ok (going next records window)) entries
skips_one history next records window entry entries d n =
    read_on (going history records window) entry entries
    ∙ ap (λ r. read_entries (read_by (going history records window) entry r) entries) d
    ∙ ap (λ h. read_entries (Ok (going h records window)) entries) (sym n)

pub stops_at : (history next : History) (records : List NewerRecord) (window : Window) (entry : FileEntry) (entries : List FileEntry) → decision history entry ≡ Ok Stop → next ≡ history
    → read_entries (Ok (going history records window)) (entry ∷ entries) ≡ Ok (over next records window)
stops_at history next records window entry entries d n =
    read_on (going history records window) entry entries
    ∙ ap (λ r. read_entries (read_by (going history records window) entry r) entries) d
    ∙ stays_over history records window entries
    ∙ ap (λ h. Ok (over h records window)) (sym n)

pub breaks_at : (history : History) (records : List NewerRecord) (window : Window) (entry : FileEntry) (entries : List FileEntry) (fault : RestoreFault) → decision history entry ≡ Err fault
    → read_entries (Ok (going history records window)) (entry ∷ entries) ≡ Err fault
breaks_at history records window entry entries fault d =
    read_on (going history records window) entry entries
    ∙ ap (λ r. read_entries (read_by (going history records window) entry r) entries) d
    ∙ broken fault entries

-- the entry ends the window, which leads to no state
pub leaves_at : (history : History) (records : List NewerRecord) (window : Window) (entry : FileEntry) (entries : List FileEntry) (fault : BaseFault) → decision history entry ≡ Ok Take → leaving_fault window entry.newer ≡ Some fault
    → read_entries (Ok (going history records window)) (entry ∷ entries) ≡ Err (fault_of_base fault)
leaves_at history records window entry entries fault d f =
    read_on (going history records window) entry entries
    ∙ ap (λ r. read_entries (read_by (going history records window) entry r) entries) d
    ∙ ap (λ f. read_entries (taken_by (going history records window) entry f) entries) f
    ∙ broken (fault_of_base fault) entries

-- ---- the window of a stage

leaving_by : (b : Bool) (draft : Draft) (exact : ℤ) (new : Stage) (last : ℤ) (newer : NewerRecord) → TakesInWindow b draft last newer new → (let w : Window = cond b (Some (replayed_one draft newer, exact)) None in w ≡ window_of new exact)
leaving_by true draft exact (stages.Window next end) last newer t = ap (λ d. let w : Window = Some (d, exact) in w) (sym (draft_is draft next newer t.0))
leaving_by true draft exact (stages.Table table) last newer t = absurd t
leaving_by false draft exact (stages.Window next end) last newer t = absurd t.applied
leaving_by false draft exact (stages.Table table) last newer t = refl

table_stays : (new : Stage) (exact : ℤ) (newer : NewerRecord) (old : Stage) → Takes old exact newer new → (let w : Window = None in window_of old exact ≡ w) → (let w : Window = None in w ≡ window_of new exact)
table_stays (stages.Table table) exact newer old t none = refl
table_stays (stages.Window draft last) exact newer (stages.Table table) t none = absurd t
table_stays (stages.Window draft last) exact newer (stages.Window one end) t none = cc

pub window_taken : (old : Stage) (exact : ℤ) (newer : NewerRecord) (new : Stage) → Takes old exact newer new → window_after (window_of old exact) newer ≡ window_of new exact
window_taken (stages.Window draft last) exact newer new t = leaving_by (int_le newer.txn.zxid exact) draft exact new last newer t
window_taken (stages.Table table) exact newer new t = table_stays new exact newer (stages.Table table) t refl

pub leaving_is : (old : Stage) (exact : ℤ) (newer : NewerRecord) → leaving_fault (window_of old exact) newer ≡ take_fault old exact newer
leaving_is (stages.Window draft last) exact newer = refl
leaving_is (stages.Table table) exact newer = refl

-- ---- a loop over the entries

-- a restoration within a file: the entries before the place i were read
pub record IsWithin (start : Restore) (file : LogFile) (i : ℕ) (restore : Restore) : Type 0 where
  pub records : List NewerRecord
  pub read : read_entries (Ok (reading_of start)) file.entries.items ≡ read_entries (Ok (reading_with restore records false)) (drop i file.entries.items)
  pub exact : restore.exact ≡ start.exact
  pub stage : Replays start.stage start.exact records restore.stage
  pub counted : Follows start records restore

pub none_taken : (start : Restore) (file : LogFile) → IsWithin start file 0 start
none_taken start file = record { records = []; read = refl; exact = refl; stage = no_records start.stage start.exact; counted = none_counted start }

-- the reading at the place i, with the next entry
at_next : (start restore : Restore) (file : LogFile) (i : ℕ) (entry : FileEntry) → i < length file.entries.items → entry ≡ get_or file.entries.items i entry → (w : IsWithin start file i restore)
    → read_entries (Ok (reading_of start)) file.entries.items ≡ read_entries (Ok (reading_with restore w.records false)) (entry ∷ drop (i + 1) file.entries.items)
at_next start restore file i entry lt is w = w.read ∙ ap (read_entries (Ok (reading_with restore w.records false))) (next_is file.entries.items i entry lt is)

-- the windows before and after an entry
same_window : (old new : Restore) → new.exact ≡ old.exact → new.stage ≡ old.stage → window_of old.stage old.exact ≡ window_of new.stage new.exact
same_window old new exact stage = ap (λ s. window_of s old.exact) (sym stage) ∙ ap (window_of new.stage) (sym exact)

next_window : (old new : Restore) (newer : NewerRecord) → new.exact ≡ old.exact → Takes old.stage old.exact newer new.stage → window_after (window_of old.stage old.exact) newer ≡ window_of new.stage new.exact
next_window old new newer exact t = window_taken old.stage old.exact newer new.stage t ∙ ap (window_of new.stage) (sym exact)

pub one_taken : (start old new : Restore) (file : LogFile) (i : ℕ) (entry : FileEntry) (turn : Turn) → i < length file.entries.items → entry ≡ get_or file.entries.items i entry → IsWithin start file i old → IsAfterEntry old entry new turn → turn ≢ Stop
    → IsWithin start file (i + 1) new
one_taken start old new file i entry Take lt is w a goes_on =
    let rest = drop (i + 1) file.entries.items in
    let records = w.records ++ entry.newer ∷ [] in
    record {
      records = records;
      read =
          at_next start old file i entry lt is w
          ∙ takes_one (history_of old.chain) (history_of new.chain) w.records (window_of old.stage old.exact) entry rest a.decided (leaving_is old.stage old.exact entry.newer ∙ a.stage.1) a.history
          ∙ ap (λ v. read_entries (Ok (going (history_of new.chain) records v)) rest) (next_window old new entry.newer a.exact a.stage.0);
      exact = a.exact ∙ w.exact;
      stage = one_more start.stage old.stage new.stage start.exact w.records entry.newer w.stage (subst (λ z. Takes old.stage z entry.newer new.stage) w.exact a.stage.0);
      counted = one_counted start old new w.records entry.newer w.counted w.exact a.stage.0 a.counted;
    }
one_taken start old new file i entry Skip lt is w a goes_on =
    let rest = drop (i + 1) file.entries.items in
    record {
      records = w.records;
      read =
          at_next start old file i entry lt is w
          ∙ skips_one (history_of old.chain) (history_of new.chain) w.records (window_of old.stage old.exact) entry rest a.decided a.history
          ∙ ap (λ v. read_entries (Ok (going (history_of new.chain) w.records v)) rest) (same_window old new a.exact a.stage);
      exact = a.exact ∙ w.exact;
      stage = subst (Replays start.stage start.exact w.records) (sym a.stage) w.stage;
      counted = same_counted start old new w.records w.counted a.stage a.counted;
    }
one_taken start old new file i entry Stop lt is w a goes_on = absurd (goes_on refl)

-- all that was asked for was taken
pub over_at : (start old new : Restore) (file : LogFile) (i : ℕ) (entry : FileEntry) → i < length file.entries.items → entry ≡ get_or file.entries.items i entry → IsWithin start file i old → IsAfterEntry old entry new Stop → IsAfterFile start file new false
over_at start old new file i entry lt is w a = record {
  records = w.records;
  read =
      ap (read_end file)
      (at_next start old file i entry lt is w
      ∙ stops_at (history_of old.chain) (history_of new.chain) w.records (window_of old.stage old.exact) entry (drop (i + 1) file.entries.items) a.decided a.history
      ∙ ap (λ v. let r : Result Reading RestoreFault = Ok (over (history_of new.chain) w.records v) in r) (same_window old new a.exact a.stage));
  exact = a.exact ∙ w.exact;
  stage = subst (Replays start.stage start.exact w.records) (sym a.stage) w.stage;
  counted = same_counted start old new w.records w.counted a.stage a.counted;
}

-- only a broken file ends with a fault
log_fault : (read : Result Reading RestoreFault) (fault : RestoreFault) (broken : LogFileFault) → (let end : Result (Unit {0}) RestoreFault = Err (faults.Log broken) in end ≡ Err fault) → read ≡ Err fault → IsFaultOf read fault
log_fault read (faults.Purged first) broken e r = r
log_fault read (faults.Gap from to) broken e r = r
log_fault read (faults.Differs at) broken e r = r
log_fault read (faults.Short exact) broken e r = cc
log_fault read (faults.Early exact) broken e r = cc
log_fault read (faults.Log fault) broken e r = r
log_fault read faults.Tree broken e r = r
log_fault read faults.Access broken e r = r
log_fault read faults.NoMemory broken e r = tt

no_fault : (read : Result Reading RestoreFault) (fault : RestoreFault) → (let end : Result (Unit {0}) RestoreFault = Ok tt in end ≡ Err fault) → IsFaultOf read fault
no_fault read fault e = absurd (ok_is_no_err tt fault e)

fault_of_end : (read : Result Reading RestoreFault) (fault : RestoreFault) (wanted : Bool) (outcome : Result Ending LogFileFault) → end_of wanted outcome ≡ Err fault → read ≡ Err fault → IsFaultOf read fault
fault_of_end read fault wanted (Ok ending) end r = no_fault read fault end
fault_of_end read fault true (Err broken) end r = log_fault read fault broken end r
fault_of_end read fault false (Err broken) end r = no_fault read fault end

-- the entries that were read to the end of a file
all_read : (start restore : Restore) (file : LogFile) (i : ℕ) → length file.entries.items ≤ i → (w : IsWithin start file i restore) → read_entries (Ok (reading_of start)) file.entries.items ≡ Ok (reading_with restore w.records false)
all_read start restore file i le w =
    w.read
    ∙ ap (read_entries (Ok (reading_with restore w.records false))) (at_end file.entries.items i le)
    ∙ none_left (Ok (reading_with restore w.records false))

pub to_the_end : (start restore : Restore) (file : LogFile) (i : ℕ) (none : Unit {0}) → length file.entries.items ≤ i → IsWithin start file i restore → end_of (is_wanted (history_of restore.chain)) file.outcome ≡ Ok none → IsAfterFile start file restore true
to_the_end start restore file i none le w end =
    let reading : Reading = reading_with restore w.records false in
    record {
      records = w.records;
      read = ap (read_end file) (all_read start restore file i le w) ∙ ap (ended_by reading) end;
      exact = w.exact;
      stage = w.stage;
      counted = w.counted;
    }

-- the first fault of a file
pub end_broken : (start restore : Restore) (file : LogFile) (i : ℕ) (fault : RestoreFault) → length file.entries.items ≤ i → IsWithin start file i restore → end_of (is_wanted (history_of restore.chain)) file.outcome ≡ Err fault → GoesThrough start file (Err fault)
end_broken start restore file i fault le w end =
    let reading : Reading = reading_with restore w.records false in
    fault_of_end (read_file (reading_of start) file) fault (is_wanted (history_of restore.chain)) file.outcome end (ap (read_end file) (all_read start restore file i le w) ∙ ap (ended_by reading) end)

chain_broken : (start old : Restore) (file : LogFile) (i : ℕ) (entry : FileEntry) (fault : RestoreFault) → i < length file.entries.items → entry ≡ get_or file.entries.items i entry → IsWithin start file i old → decision (history_of old.chain) entry ≡ Err fault
    → read_file (reading_of start) file ≡ Err fault
chain_broken start old file i entry fault lt is w d =
    ap (read_end file) (at_next start old file i entry lt is w ∙ breaks_at (history_of old.chain) w.records (window_of old.stage old.exact) entry (drop (i + 1) file.entries.items) fault d)

window_broken : (start old : Restore) (file : LogFile) (i : ℕ) (entry : FileEntry) (fault : BaseFault) → i < length file.entries.items → entry ≡ get_or file.entries.items i entry → IsWithin start file i old → decision (history_of old.chain) entry ≡ Ok Take → take_fault old.stage old.exact entry.newer ≡ Some fault
    → read_file (reading_of start) file ≡ Err (fault_of_base fault)
window_broken start old file i entry fault lt is w d f =
    ap (read_end file) (at_next start old file i entry lt is w ∙ leaves_at (history_of old.chain) w.records (window_of old.stage old.exact) entry (drop (i + 1) file.entries.items) fault d (leaving_is old.stage old.exact entry.newer ∙ f))

pub entry_broken : (start old : Restore) (file : LogFile) (i : ℕ) (entry : FileEntry) (fault : RestoreFault) → i < length file.entries.items → entry ≡ get_or file.entries.items i entry → IsWithin start file i old → Goes old entry (Err fault) → GoesThrough start file (Err fault)
entry_broken start old file i entry (faults.Purged first) lt is w g = chain_broken start old file i entry (faults.Purged first) lt is w g
entry_broken start old file i entry (faults.Gap from to) lt is w g = chain_broken start old file i entry (faults.Gap from to) lt is w g
entry_broken start old file i entry (faults.Differs at) lt is w g = chain_broken start old file i entry (faults.Differs at) lt is w g
entry_broken start old file i entry (faults.Short exact) lt is w g = absurd g
entry_broken start old file i entry (faults.Early exact) lt is w g = absurd g
entry_broken start old file i entry (faults.Log fault) lt is w g = absurd g
entry_broken start old file i entry faults.Tree lt is w g = window_broken start old file i entry bases.Tree lt is w g.0 g.1
entry_broken start old file i entry faults.Access lt is w g = window_broken start old file i entry bases.Access lt is w g.0 g.1
entry_broken start old file i entry faults.NoMemory lt is w g = tt

-- ---- one entry

-- the faults of a chain
abbrev IsChainFault : RestoreFault → Type 0
IsChainFault (faults.Purged first) = Unit {0}
IsChainFault (faults.Gap from to) = Unit {0}
IsChainFault (faults.Differs at) = Unit {0}
IsChainFault faults.NoMemory = Unit {0}
IsChainFault fault = ⊥

of_chain : (at : ℕ) (d : Result Turn ChainFault) (fault : RestoreFault) → decided at d ≡ Err fault → IsChainFault fault
of_chain at (Ok turn) fault e = absurd (ok_is_no_err turn fault e)
of_chain at (Err (chains.Purged first)) fault e = subst IsChainFault (err_is {T = Turn} (faults.Purged first) fault e) tt
of_chain at (Err (chains.Gap from to)) fault e = subst IsChainFault (err_is {T = Turn} (faults.Gap from to) fault e) tt
of_chain at (Err chains.Differs) fault e = subst IsChainFault (err_is {T = Turn} (faults.Differs at) fault e) tt
of_chain at (Err chains.NoMemory) fault e = subst IsChainFault (err_is {T = Turn} faults.NoMemory fault e) tt

-- an entry that does not continue the history
pub entry_fails : (old : Restore) (entry : FileEntry) (fault : RestoreFault) (new : History) → TakesEntry (history_of old.chain) entry (Err fault) new → Goes old entry (Err fault)
entry_fails old entry (faults.Purged first) new t = t.0
entry_fails old entry (faults.Gap from to) new t = t.0
entry_fails old entry (faults.Differs at) new t = t.0
entry_fails old entry (faults.Short exact) new t = absurd (of_chain entry.at (turn_of (history_of old.chain) (told_of entry)) (faults.Short exact) t.0)
entry_fails old entry (faults.Early exact) new t = absurd (of_chain entry.at (turn_of (history_of old.chain) (told_of entry)) (faults.Early exact) t.0)
entry_fails old entry (faults.Log broken) new t = absurd (of_chain entry.at (turn_of (history_of old.chain) (told_of entry)) (faults.Log broken) t.0)
entry_fails old entry faults.Tree new t = absurd (of_chain entry.at (turn_of (history_of old.chain) (told_of entry)) faults.Tree t.0)
entry_fails old entry faults.Access new t = absurd (of_chain entry.at (turn_of (history_of old.chain) (told_of entry)) faults.Access t.0)
entry_fails old entry faults.NoMemory new t = tt

-- the window leads to no state
pub stage_fails : (old : Restore) (entry : FileEntry) (base : BaseFault) (fault : RestoreFault) → decision (history_of old.chain) entry ≡ Ok Take → IsFault (take_fault old.stage old.exact entry.newer) base → fault ≡ fault_of_base base → Goes old entry (Err fault)
stage_fails old entry bases.Tree fault d f e = subst (λ f. Goes old entry (Err f)) (sym e) (d, f)
stage_fails old entry bases.Access fault d f e = subst (λ f. Goes old entry (Err f)) (sym e) (d, f)
stage_fails old entry bases.NoMemory fault d f e = subst (λ f. Goes old entry (Err f)) (sym e) tt
