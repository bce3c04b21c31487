-- Files, one after another.
use Rattle.std.proofs.Common.{◌≡◌, ℕ, ◌+◌, ◌<◌, Bool, true, false, cond, inr, List, [], ◌∷◌, ◌++◌, length, take, get_or, Option, Some, None, Result, Ok, Err, refl, sym, ap, ◌∙◌, subst, append_assoc, append-nil}
use Rattle.std.proofs.lemmas.List.{take_more}
use Rattle.std.specs.Borrow.{Bor}
use Rattle.std.specs.Prelude.{not}
use Rattle.zk_directory.specs.declared.chain.Turn.{Turn}
use Rattle.zk_directory.specs.declared.chain.Turn.TheVariants.{Take, Skip, Stop}
use Rattle.zk_log.specs.declared.loaded.Ending.{Ending}
use Rattle.zk_directory.specs.LogFiles.{IsLogFile}
use Rattle.zk_directory.specs.declared.file.FileEntry.{FileEntry}
use Rattle.zk_directory.specs.declared.file.LogFile.{LogFile}
use Rattle.zk_newer_records.specs.declared.newer_record.NewerRecord.{NewerRecord}
use Rattle.zk_directory_state.proofs.Tallying.{joined_counted, none_counted}
use Rattle.zk_directory_state.proofs.Joined.{none_left, read_step}
use Rattle.zk_directory_state.proofs.Leading.{joined, no_records}
use Rattle.zk_directory_state.specs.Directories.{AreAllRead, AreBroken, AreLogFiles, AreRead, FailsIn, IsAfterLog, ReadsLog, ending_of, last_ending, read_files, read_next}
use Rattle.zk_directory_state.specs.Ends.{last_entries, next_by}
use Rattle.zk_directory_state.specs.Joins as joins
use Rattle.zk_directory_state.specs.Joins.{Reading, decision, end_of, ended_by, is_wanted, leaving_fault, read_by, read_end, read_entries, read_entry, read_file, taken_by, with_entry}
use Rattle.zk_directory_state.specs.Restorations.{GoesThrough, IsFaultOf, Replays, reading_of, reading_with}
use Rattle.zk_replay.specs.declared.fault.BaseFault.{BaseFault}
use Rattle.zk_directory_state.specs.declared.restored_directory.Step.{Step}
use Rattle.zk_directory_state.specs.declared.restore_fault.RestoreFault.{RestoreFault}
use Rattle.zk_directory_state.specs.declared.restore_fault.RestoreFault.TheVariants as faults
use Rattle.zk_directory_state.specs.declared.restoration.Restore.{Restore}

-- ---- records that were taken before

abbrev pub behind : List NewerRecord → Reading → Reading
behind front reading = record { history = reading.history; records = front ++ reading.records; window = reading.window; is_over = reading.is_over }

abbrev pub all_behind : List NewerRecord → Result Reading RestoreFault → Result Reading RestoreFault
all_behind front (Ok reading) = Ok (behind front reading)
all_behind front (Err fault) = Err fault

taken_behind : (front : List NewerRecord) (reading : Reading) (entry : FileEntry) (f : Option BaseFault) → taken_by (behind front reading) entry f ≡ all_behind front (taken_by reading entry f)
taken_behind front reading entry None =
    ap (λ l. let r : Reading = record { history = (with_entry reading entry).history; records = l; window = (with_entry reading entry).window; is_over = false } in let x : Result Reading RestoreFault = Ok r in x) (append_assoc front reading.records (entry.newer ∷ []))
taken_behind front reading entry (Some fault) = refl

turn_behind : (front : List NewerRecord) (reading : Reading) (entry : FileEntry) (d : Result Turn RestoreFault) → read_by (behind front reading) entry d ≡ all_behind front (read_by reading entry d)
turn_behind front reading entry (Err fault) = refl
turn_behind front reading entry (Ok Take) = taken_behind front reading entry (leaving_fault reading.window entry.newer)
turn_behind front reading entry (Ok Skip) = refl
turn_behind front reading entry (Ok Stop) = refl

entry_by : (over : Bool) (front : List NewerRecord) (reading : Reading) (entry : FileEntry)
    → cond over (Ok (behind front reading)) (read_by (behind front reading) entry (decision reading.history entry)) ≡ all_behind front (cond over (Ok reading) (read_by reading entry (decision reading.history entry)))
entry_by true front reading entry = refl
entry_by false front reading entry = turn_behind front reading entry (decision reading.history entry)

next_behind : (front : List NewerRecord) (read : Result Reading RestoreFault) (entry : FileEntry) → joins.read_next (all_behind front read) entry ≡ all_behind front (joins.read_next read entry)
next_behind front (Ok reading) entry = entry_by reading.is_over front reading entry
next_behind front (Err fault) entry = refl

pub entries_behind : (front : List NewerRecord) (read : Result Reading RestoreFault) (entries : List FileEntry) → read_entries (all_behind front read) entries ≡ all_behind front (read_entries read entries)
entries_behind front read [] = none_left (all_behind front read) ∙ ap (all_behind front) (sym (none_left read))
entries_behind front read (entry ∷ entries) =
    read_step (all_behind front read) entry entries
    ∙ ap (λ y. read_entries y entries) (next_behind front read entry)
    ∙ entries_behind front (joins.read_next read entry) entries
    ∙ ap (all_behind front) (sym (read_step read entry entries))

pub ended_behind : (front : List NewerRecord) (reading : Reading) (end : Result (Unit {0}) RestoreFault) → ended_by (behind front reading) end ≡ all_behind front (ended_by reading end)
ended_behind front reading (Ok none) = refl
ended_behind front reading (Err fault) = refl

end_by : (over : Bool) (front : List NewerRecord) (reading : Reading) (end : Result (Unit {0}) RestoreFault)
    → cond over (Ok (behind front reading)) (ended_by (behind front reading) end) ≡ all_behind front (cond over (Ok reading) (ended_by reading end))
end_by true front reading end = refl
end_by false front reading end = ended_behind front reading end

end_behind : (front : List NewerRecord) (x : Result Reading RestoreFault) (file : LogFile) → read_end file (all_behind front x) ≡ all_behind front (read_end file x)
end_behind front (Err fault) file = refl
end_behind front (Ok reading) file = end_by reading.is_over front reading (end_of (is_wanted reading.history) file.outcome)

pub file_behind : (front : List NewerRecord) (reading : Reading) (file : LogFile) → read_file (behind front reading) file ≡ all_behind front (read_file reading file)
file_behind front reading file =
    ap (read_end file) (entries_behind front (Ok reading) file.entries.items)
    ∙ end_behind front (read_entries (Ok reading) file.entries.items) file

-- ---- one file more

pub no_files : (read : Result Reading RestoreFault) → read_files read [] ≡ read
unfolding read_files
no_files read = refl

pub files_on : (read : Result Reading RestoreFault) (file : LogFile) (files : List LogFile) → read_files read (file ∷ files) ≡ read_files (read_next read file) files
unfolding read_files
files_on read file files = refl

pub then_files : (read : Result Reading RestoreFault) (files more : List LogFile) → read_files read (files ++ more) ≡ read_files (read_files read files) more
then_files read [] more = ap (λ y. read_files y more) (sym (no_files read))
then_files read (file ∷ files) more =
    files_on read file (files ++ more)
    ∙ then_files (read_next read file) files more
    ∙ ap (λ y. read_files y more) (sym (files_on read file files))

-- the next file, after others
next_file : (start : Result Reading RestoreFault) (files : List LogFile) (file : LogFile) (old : Restore) (records : List NewerRecord) (last : Result Reading RestoreFault)
    → read_files start files ≡ Ok (reading_with old records false) → read_file (reading_of old) file ≡ last → read_files start (files ++ file ∷ []) ≡ all_behind records last
next_file start files file old records last so_far one =
    then_files start files (file ∷ [])
    ∙ ap (λ y. read_files y (file ∷ [])) so_far
    ∙ files_on (Ok (reading_with old records false)) file []
    ∙ no_files (read_file (reading_with old records false) file)
    ∙ ap (λ l. read_file (reading_with old l false) file) (sym (append-nil records))
    ∙ file_behind records (reading_of old) file
    ∙ ap (all_behind records) one

pub more_files : (logs : List (Bor (List ℕ))) (files : List LogFile) (bytes : Bor (List ℕ)) (file : LogFile) → AreLogFiles logs files → IsLogFile bytes.now file → AreLogFiles (logs ++ bytes ∷ []) (files ++ file ∷ [])
more_files [] [] bytes file are is = (is, tt)
more_files [] (other ∷ files) bytes file are is = absurd are
more_files (other ∷ logs) [] bytes file are is = absurd are
more_files (other ∷ logs) (one ∷ files) bytes file are is = (are.0, more_files logs files bytes file are.1 is)

-- what a loop has in place of a log that is not there
abbrev pub no_bytes : Bor (List ℕ)
no_bytes = record { ref_ptr = (0, 0); now = [] }

pub taken_more : (logs : List (Bor (List ℕ))) (i : ℕ) (files : List LogFile) (file : LogFile) → i < length logs → AreLogFiles (take i logs) files → IsLogFile (get_or logs i no_bytes).now file → AreLogFiles (take (i + 1) logs) (files ++ file ∷ [])
taken_more logs i files file lt are one = subst (λ l. AreLogFiles l (files ++ file ∷ [])) (sym (take_more logs i no_bytes lt)) (more_files (take i logs) files (get_or logs i no_bytes) file are one)

no_ending : (ending : Option Ending) → last_ending ending [] ≡ ending
unfolding last_ending
no_ending ending = refl

ending_on : (ending : Option Ending) (file : LogFile) (files : List LogFile) → last_ending ending (file ∷ files) ≡ last_ending (ending_of file.outcome) files
unfolding last_ending
ending_on ending file files = refl

ends_with : (ending : Option Ending) (files : List LogFile) (file : LogFile) → last_ending ending (files ++ file ∷ []) ≡ ending_of file.outcome
ends_with ending [] file = ending_on ending file [] ∙ no_ending (ending_of file.outcome)
ends_with ending (one ∷ files) file = ending_on ending one (files ++ file ∷ []) ∙ ends_with (ending_of one.outcome) files file

no_entries : (entries : List FileEntry) → last_entries entries [] ≡ entries
unfolding last_entries
no_entries entries = refl

entries_on : (entries : List FileEntry) (file : LogFile) (files : List LogFile) → last_entries entries (file ∷ files) ≡ last_entries file.entries.items files
unfolding last_entries
entries_on entries file files = refl

-- the last file's are the last
last_with : (entries : List FileEntry) (files : List LogFile) (file : LogFile) → last_entries entries (files ++ file ∷ []) ≡ file.entries.items
last_with entries [] file = entries_on entries file [] ∙ no_entries file.entries.items
last_with entries (one ∷ files) file = entries_on entries one (files ++ file ∷ []) ∙ last_with one.entries.items files file

twice_not : (b : Bool) → not (not b) ≡ b
twice_not true = refl
twice_not false = refl

-- no file yet
pub none_read : (start : Restore) (logs : List (Bor (List ℕ))) → AreRead start logs 0 start false None
none_read start logs = record {
  files = [];
  of_logs = tt;
  records = [];
  of_files = no_files (Ok (reading_of start));
  exact = refl;
  stage = no_records start.stage start.exact;
  counted = none_counted start;
  last = sym (no_ending None);
}

-- one more was read
one_read : (start old : Restore) (logs : List (Bor (List ℕ))) (i : ℕ) (step : Step) (ending : Option Ending) → i < length logs → AreRead start logs i old false ending → IsAfterLog old (get_or logs i no_bytes).now step
    → AreRead start logs (i + 1) step.restore (not step.goes_on) step.ending
one_read start old logs i step ending lt so_far after = record {
  files = so_far.files ++ after.file ∷ [];
  of_logs = taken_more logs i so_far.files after.file lt so_far.of_logs after.of_bytes;
  records = so_far.records ++ after.after.records;
  of_files = next_file (Ok (reading_of start)) so_far.files after.file old so_far.records _ so_far.of_files after.after.read;
  exact = after.after.exact ∙ so_far.exact;
  stage = joined start.stage old.stage step.restore.stage start.exact so_far.records after.after.records so_far.stage (subst (λ z. Replays old.stage z after.after.records step.restore.stage) so_far.exact after.after.stage);
  counted = joined_counted start old step.restore so_far.records after.after.records so_far.counted after.after.counted so_far.exact;
  last = after.ending ∙ sym (ends_with None so_far.files after.file);
}

-- as a loop counts
pub next_read : (start old : Restore) (logs : List (Bor (List ℕ))) (read i : ℕ) (step : Step) (ending : Option Ending) → read ≡ i → i < length logs → AreRead start logs read old false ending → IsAfterLog old (get_or logs i no_bytes).now step
    → AreRead start logs (read + 1) step.restore (not step.goes_on) step.ending
next_read start old logs read i step ending e lt so_far after =
    one_read start old logs read step ending (subst (λ n. n < length logs) (sym e) lt) so_far (subst (λ n. IsAfterLog old (get_or logs n no_bytes).now step) (sym e) after)

-- reading is over
last_one : (start old : Restore) (logs : List (Bor (List ℕ))) (i : ℕ) (step : Step) (ending : Option Ending) → i < length logs → AreRead start logs i old false ending → IsAfterLog old (get_or logs i no_bytes).now step → step.goes_on ≡ false
    → AreAllRead start logs (record { restore = step.restore; read = i + 1; ending = step.ending; next = step.next })
unfolding one_read
last_one start old logs i step ending lt so_far after over = record {
  over = not step.goes_on;
  after = one_read start old logs i step ending lt so_far after;
  next =
      after.next
      ∙ ap (λ (b : Bool). next_by b step.restore.chain.position after.file.entries.items) (sym (twice_not step.goes_on))
      ∙ ap (next_by (not (not step.goes_on)) step.restore.chain.position) (sym (last_with [] so_far.files after.file));
  enough = inr (ap not over);
}

-- as a loop counts
pub last_read : (start old : Restore) (logs : List (Bor (List ℕ))) (read i : ℕ) (step : Step) (ending : Option Ending) → read ≡ i → i < length logs → AreRead start logs read old false ending → IsAfterLog old (get_or logs i no_bytes).now step
    → step.goes_on ≡ false → AreAllRead start logs (record { restore = step.restore; read = read + 1; ending = step.ending; next = step.next })
last_read start old logs read i step ending e lt so_far after over =
    last_one start old logs read step ending (subst (λ n. n < length logs) (sym e) lt) so_far (subst (λ n. IsAfterLog old (get_or logs n no_bytes).now step) (sym e) after) over

fault_behind : (front : List NewerRecord) (read all : Result Reading RestoreFault) (fault : RestoreFault) → IsFaultOf read fault → (read ≡ Err fault → all ≡ Err fault) → IsFaultOf all fault
fault_behind front read all (faults.Purged first) f told = told f
fault_behind front read all (faults.Gap from to) f told = told f
fault_behind front read all (faults.Differs at) f told = told f
fault_behind front read all (faults.Short exact) f told = absurd f
fault_behind front read all (faults.Early exact) f told = absurd f
fault_behind front read all (faults.Log broken) f told = told f
fault_behind front read all faults.Tree f told = told f
fault_behind front read all faults.Access f told = told f
fault_behind front read all faults.NoMemory f told = tt

-- the next one is broken
one_broken : (start old : Restore) (logs : List (Bor (List ℕ))) (i : ℕ) (fault : RestoreFault) (ending : Option Ending) (file : LogFile) → i < length logs → AreRead start logs i old false ending → IsLogFile (get_or logs i no_bytes).now file
    → IsFaultOf (read_file (reading_of old) file) fault → AreBroken start logs i fault
one_broken start old logs i fault ending file lt so_far of_bytes broken = record {
  files = so_far.files ++ file ∷ [];
  of_logs = taken_more logs i so_far.files file lt so_far.of_logs of_bytes;
  of_files =
      fault_behind so_far.records (read_file (reading_of old) file) (read_files (Ok (reading_of start)) (so_far.files ++ file ∷ [])) fault broken
      (λ e. next_file (Ok (reading_of start)) so_far.files file old so_far.records (Err fault) so_far.of_files e);
}

-- as the contract of the call says it
pub log_broken : (start old : Restore) (logs : List (Bor (List ℕ))) (i : ℕ) (fault : RestoreFault) (ending : Option Ending) → i < length logs → AreRead start logs i old false ending → ReadsLog old (get_or logs i no_bytes).now (Err fault) → FailsIn start logs i fault
log_broken start old logs i faults.NoMemory ending lt so_far r = tt
log_broken start old logs i fault ending lt so_far r = one_broken start old logs i fault ending r.0 lt so_far r.1 r.2

pub next_broken : (start old : Restore) (logs : List (Bor (List ℕ))) (read i : ℕ) (fault : RestoreFault) (ending : Option Ending) → read ≡ i → i < length logs → AreRead start logs read old false ending → ReadsLog old (get_or logs i no_bytes).now (Err fault) → FailsIn start logs read fault
next_broken start old logs read i fault ending e lt so_far r =
    log_broken start old logs read fault ending (subst (λ n. n < length logs) (sym e) lt) so_far (subst (λ n. ReadsLog old (get_or logs n no_bytes).now (Err fault)) (sym e) r)

-- a file that is broken, or does not continue the history
pub log_fails : (old : Restore) (bytes : List ℕ) (file : LogFile) (fault : RestoreFault) → IsLogFile bytes file → GoesThrough old file (Err fault) → ReadsLog old bytes (Err fault)
log_fails old bytes file faults.NoMemory is g = tt
log_fails old bytes file fault is g = (file, is, g)
