-- The transactions of logs, gathered one log after another.
use Rattle.std.proofs.Common.{◌≡◌, ◌≢◌, ℕ, ℤ, pos, ◌+◌, ◌<◌, ◌≤◌, Bool, true, false, cond, List, [], ◌∷◌, ◌++◌, length, map, drop, take, get_or, inr, Option, Some, None, Result, Ok, Err, Vec, Global, refl, sym, ap, ◌∙◌, subst, append_assoc, append-nil}
use Rattle.std.proofs.lemmas.List.{drop_more, map-append, take_all}
use Rattle.std.specs.Borrow.{Bor}
use Rattle.std.specs.List.{filter}
use Rattle.zk_replay.proofs.Turning.{next_is, at_end}
use Rattle.zk_directory.specs.Chains.{History, above_of, after_turn, begins, history_of, is_before, is_repeated, once, stands, told, turn_of}
use Rattle.zk_directory.specs.Continuing.{continues, counter_of}
use Rattle.zk_directory.specs.declared.chain.Chain.{Chain}
use Rattle.zk_directory.specs.declared.chain.ChainFault.{ChainFault}
use Rattle.zk_directory.specs.declared.chain.ChainFault.TheVariants as chains
use Rattle.zk_directory.specs.declared.chain.Turn.{Turn}
use Rattle.zk_directory.specs.declared.chain.Turn.TheVariants.{Take, Skip, Stop}
use Rattle.zk_directory_state.specs.Attempts.{history_fault}
use Rattle.zk_directory_state.specs.Records.{first_reading}
use Rattle.zk_directory_state.specs.Logs.{AreGiven, bytes_of}
use Rattle.zk_directory_state.specs.declared.fault.HistoryFault.{HistoryFault}
use Rattle.zk_directory_state.specs.declared.fault.HistoryFault.TheVariants as history_faults
use Rattle.zk_log.specs.declared.loaded.Ending.{Ending}
use Rattle.zk_directory.specs.LogFiles.{IsLogFile}
use Rattle.zk_directory.specs.declared.file.FileEntry.{FileEntry}
use Rattle.zk_directory.specs.declared.file.LogFile.{LogFile}
use Rattle.zk_directory.specs.declared.file.LogFileFault.{LogFileFault}
use Rattle.zk_newer_records.specs.declared.newer_record.NewerRecord.{NewerRecord}
use Rattle.zk_directory_state.proofs.TakenFiles.{all_behind, entries_behind, file_behind, files_on, no_bytes, no_files, taken_more, then_files}
use Rattle.zk_directory_state.proofs.Joined.{breaks_at, broken, none_left, read_step, skips_one, takes_one}
use Rattle.zk_directory_state.specs.Directories.{AreLogFiles, read_files}
use Rattle.zk_directory_state.specs.Joins.{Reading, TakesEntry, decided, decision, end_of, ended_by, is_wanted, read_end, read_entries, read_file, told_of}
use Rattle.zk_directory_state.specs.States.{txn_of}
use Rattle.zk_directory_state.specs.declared.restore_fault.DirectoryFault.{DirectoryFault}
use Rattle.zk_directory_state.specs.declared.restore_fault.RestoreFault.{RestoreFault}
use Rattle.zk_directory_state.specs.declared.restore_fault.RestoreFault.TheVariants as faults
use Rattle.zk_table.specs.declared.txn.Txn.{Txn}
use Rattle.zk_commands.specs.Later.{AppendsEntries, AppendsFile, AppendsLog, AppendsLogs, AreLater, BreaksLater, FailsBy, FindsLater, FindsLaterIn, LaterIn, is_later, logs_after, reading_at}

-- ---- reading does not stop at the end of the logs

stop_by : (a b c d : Bool) (above : Result Turn ChainFault)
    → (let skip : Result Turn ChainFault = Ok Skip in let one : Result Turn ChainFault = Ok Take in let stop : Result Turn ChainFault = Ok Stop in cond a skip (cond b one (cond c (once d) above)) ≡ stop → above ≡ stop)
stop_by true b c d above e = cc
stop_by false true c d above e = cc
stop_by false false true true above e = cc
stop_by false false true false above e = cc
stop_by false false false d above e = e

taken_or : (b : Bool) (fault : ChainFault) → (let one : Result Turn ChainFault = Ok Take in let other : Result Turn ChainFault = Err fault in let stop : Result Turn ChainFault = Ok Stop in cond b one other ≡ stop) → ⊥
taken_or true fault e = cc
taken_or false fault e = cc

above_stop : (position : Option ℤ) (zxid : ℤ) → above_of position None zxid ≡ Ok Stop → ⊥
above_stop None zxid e = taken_or _ (chains.Purged zxid) e
above_stop (Some position) zxid e = taken_or (continues position zxid) (chains.Gap position zxid) e

no_stop : (history : History) (entry : ℤ × List ℕ) → history.upto ≡ None → turn_of history entry ≡ Ok Stop → ⊥
no_stop history entry none e =
    let above : above_of history.position history.upto entry.0 ≡ Ok Stop = stop_by (is_before history.base entry.0) (begins history entry.0) (is_repeated history.position entry.0) (stands entry history.taken) (above_of history.position history.upto entry.0) e in
    above_stop history.position entry.0 (subst (λ u. above_of history.position u entry.0 ≡ Ok Stop) none above)

decided_stop : (at : ℕ) (d : Result Turn ChainFault) → decided at d ≡ Ok Stop → d ≡ Ok Stop
decided_stop at (Ok Take) e = cc
decided_stop at (Ok Skip) e = cc
decided_stop at (Ok Stop) e = refl
decided_stop at (Err fault) e = cc

pub never_stops : (old : Chain) (entry : FileEntry) → old.upto ≡ None → decision (history_of old) entry ≡ Ok Stop → ⊥
never_stops old entry none e = no_stop (history_of old) (told_of entry) none (decided_stop entry.at (turn_of (history_of old) (told_of entry)) e)

-- ---- one entry

same_upto : (old new : Chain) (entry : FileEntry) (turn : Turn) → history_of new ≡ after_turn (history_of old) (told_of entry) turn → new.upto ≡ old.upto
same_upto old new entry Take e = ap (λ (h : History). h.upto) e
same_upto old new entry Skip e = ap (λ (h : History). h.upto) e
same_upto old new entry Stop e = ap (λ (h : History). h.upto) e

pub upto_stays : (old new : Chain) (entry : FileEntry) (result : Result Turn RestoreFault) → TakesEntry (history_of old) entry result (history_of new) → old.upto ≡ None → new.upto ≡ None
upto_stays old new entry (Ok turn) t none = same_upto old new entry turn t.1 ∙ none
upto_stays old new entry (Err faults.NoMemory) t none = ap (λ (h : History). h.upto) t ∙ none
upto_stays old new entry (Err fault) t none = ap (λ (h : History). h.upto) t.1 ∙ none

one_txn : (newer : NewerRecord) → map txn_of (newer ∷ []) ≡ newer.txn ∷ []
one_txn newer = refl

pub taken_gathered : (old new : Chain) (entry : FileEntry) (txns txns' : List Txn) → TakesEntry (history_of old) entry (Ok Take) (history_of new) → txns' ≡ txns ++ entry.newer.txn ∷ [] → AppendsEntries (entry ∷ []) old txns new txns' (Ok tt)
taken_gathered old new entry txns txns' t line = (
  entry.newer ∷ [],
  takes_one (history_of old) (history_of new) [] None entry [] t.0 refl t.1 ∙ none_left (Ok (reading_at new (entry.newer ∷ []))),
  line ∙ ap (λ l. txns ++ l) (sym (one_txn entry.newer)),
)

pub skipped_gathered : (old new : Chain) (entry : FileEntry) (txns : List Txn) → TakesEntry (history_of old) entry (Ok Skip) (history_of new) → AppendsEntries (entry ∷ []) old txns new txns (Ok tt)
skipped_gathered old new entry txns t = (
  [],
  skips_one (history_of old) (history_of new) [] None entry [] t.0 t.1 ∙ none_left (Ok (reading_at new [])),
  sym (append-nil txns),
)

pub stopped_gathered : (old new : Chain) (entry : FileEntry) (txns : List Txn) → old.upto ≡ None → TakesEntry (history_of old) entry (Ok Stop) (history_of new) → AppendsEntries (entry ∷ []) old txns new txns (Ok tt)
stopped_gathered old new entry txns none t = absurd (never_stops old entry none t.0)

pub rejected_gathered : (old new : Chain) (entry : FileEntry) (txns txns' : List Txn) (fault : RestoreFault) (history : History) → TakesEntry (history_of old) entry (Err fault) history → AppendsEntries (entry ∷ []) old txns new txns' (Err fault)
rejected_gathered old new entry txns txns' (faults.Purged first) history t = breaks_at (history_of old) [] None entry [] (faults.Purged first) t.0
rejected_gathered old new entry txns txns' (faults.Gap from to) history t = breaks_at (history_of old) [] None entry [] (faults.Gap from to) t.0
rejected_gathered old new entry txns txns' (faults.Differs at) history t = breaks_at (history_of old) [] None entry [] (faults.Differs at) t.0
rejected_gathered old new entry txns txns' (faults.Short exact) history t = breaks_at (history_of old) [] None entry [] (faults.Short exact) t.0
rejected_gathered old new entry txns txns' (faults.Early exact) history t = breaks_at (history_of old) [] None entry [] (faults.Early exact) t.0
rejected_gathered old new entry txns txns' (faults.Log fault) history t = breaks_at (history_of old) [] None entry [] (faults.Log fault) t.0
rejected_gathered old new entry txns txns' faults.Tree history t = breaks_at (history_of old) [] None entry [] faults.Tree t.0
rejected_gathered old new entry txns txns' faults.Access history t = breaks_at (history_of old) [] None entry [] faults.Access t.0
rejected_gathered old new entry txns txns' faults.NoMemory history t = tt

-- ---- entries in order

gathered_append : (front more : List NewerRecord) → map txn_of (front ++ more) ≡ map txn_of front ++ map txn_of more
gathered_append front more = map-append txn_of front more

-- the entries before the place i were gathered
pub record AreGatheredTo (start : Chain) (txns : List Txn) (entries : List FileEntry) (i : ℕ) (chain : Chain) (now : List Txn) : Type 0 where
  pub upto : chain.upto ≡ None
  pub records : List NewerRecord
  pub read : read_entries (Ok (reading_at start [])) entries ≡ read_entries (Ok (reading_at chain records)) (drop i entries)
  pub all : now ≡ txns ++ map txn_of records

pub none_gathered : (start : Chain) (txns : List Txn) (entries : List FileEntry) → start.upto ≡ None → AreGatheredTo start txns entries 0 start txns
none_gathered start txns entries none = record { upto = none; records = []; read = refl; all = sym (append-nil txns) }

first_then : (read : Result Reading RestoreFault) (entry : FileEntry) (entries : List FileEntry) → read_entries read (entry ∷ entries) ≡ read_entries (read_entries read (entry ∷ [])) entries
first_then read entry entries = read_step read entry entries ∙ ap (λ r. read_entries r entries) (sym (read_step read entry [] ∙ none_left _))

-- one entry more, after records
after_records : (chain : Chain) (records : List NewerRecord) (entry : FileEntry) (x : Result Reading RestoreFault) → read_entries (Ok (reading_at chain [])) (entry ∷ []) ≡ x → read_entries (Ok (reading_at chain records)) (entry ∷ []) ≡ all_behind records x
after_records chain records entry x e =
    ap (λ l. read_entries (Ok (reading_at chain l)) (entry ∷ [])) (sym (append-nil records))
    ∙ entries_behind records (Ok (reading_at chain [])) (entry ∷ [])
    ∙ ap (all_behind records) e

at_entry : (start : Chain) (txns : List Txn) (entries : List FileEntry) (i : ℕ) (chain : Chain) (now : List Txn) (entry : FileEntry) (x : Result Reading RestoreFault) → i < length entries → entry ≡ get_or entries i entry → (so_far : AreGatheredTo start txns entries i chain now)
    → read_entries (Ok (reading_at chain [])) (entry ∷ []) ≡ x → read_entries (Ok (reading_at start [])) entries ≡ read_entries (all_behind so_far.records x) (drop (i + 1) entries)
at_entry start txns entries i chain now entry x lt is so_far one =
    so_far.read
    ∙ ap (read_entries (Ok (reading_at chain so_far.records))) (next_is entries i entry lt is)
    ∙ first_then (Ok (reading_at chain so_far.records)) entry (drop (i + 1) entries)
    ∙ ap (λ r. read_entries r (drop (i + 1) entries)) (after_records chain so_far.records entry x one)

pub next_gathered : (start : Chain) (txns : List Txn) (entries : List FileEntry) (i : ℕ) (old new : Chain) (now now' : List Txn) (entry : FileEntry) → i < length entries → entry ≡ get_or entries i entry → AreGatheredTo start txns entries i old now → new.upto ≡ None
    → AppendsEntries (entry ∷ []) old now new now' (Ok tt) → AreGatheredTo start txns entries (i + 1) new now'
next_gathered start txns entries i old new now now' entry lt is so_far none one = record {
  upto = none;
  records = so_far.records ++ one.0;
  read = at_entry start txns entries i old now entry (Ok (reading_at new one.0)) lt is so_far one.1;
  all =
      one.2
      ∙ ap (λ l. l ++ map txn_of one.0) so_far.all
      ∙ append_assoc txns (map txn_of so_far.records) (map txn_of one.0)
      ∙ ap (λ l. txns ++ l) (sym (gathered_append so_far.records one.0));
}

pub all_gathered : (start : Chain) (txns : List Txn) (entries : List FileEntry) (i : ℕ) (chain : Chain) (now : List Txn) → length entries ≤ i → AreGatheredTo start txns entries i chain now → AppendsEntries entries start txns chain now (Ok tt)
all_gathered start txns entries i chain now le so_far = (
  so_far.records,
  so_far.read ∙ ap (read_entries (Ok (reading_at chain so_far.records))) (at_end entries i le) ∙ none_left (Ok (reading_at chain so_far.records)),
  so_far.all,
)

broken_at : (start : Chain) (txns : List Txn) (entries : List FileEntry) (i : ℕ) (chain : Chain) (now : List Txn) (entry : FileEntry) (fault : RestoreFault) → i < length entries → entry ≡ get_or entries i entry → AreGatheredTo start txns entries i chain now
    → read_entries (Ok (reading_at chain [])) (entry ∷ []) ≡ Err fault → read_entries (Ok (reading_at start [])) entries ≡ Err fault
broken_at start txns entries i chain now entry fault lt is so_far one = at_entry start txns entries i chain now entry (Err fault) lt is so_far one ∙ broken fault (drop (i + 1) entries)

pub breaks_gathering : (start : Chain) (txns : List Txn) (entries : List FileEntry) (i : ℕ) (chain new : Chain) (now now' : List Txn) (entry : FileEntry) (fault : RestoreFault) → i < length entries → entry ≡ get_or entries i entry → AreGatheredTo start txns entries i chain now
    → AppendsEntries (entry ∷ []) chain now new now' (Err fault) → AppendsEntries entries start txns new now' (Err fault)
breaks_gathering start txns entries i chain new now now' entry faults.NoMemory lt is so_far one = tt
breaks_gathering start txns entries i chain new now now' entry fault lt is so_far one = broken_at start txns entries i chain now entry fault lt is so_far one

-- ---- a file

pub file_gathered : (old new : Chain) (txns txns' : List Txn) (file : LogFile) → AppendsEntries file.entries.items old txns new txns' (Ok tt) → end_of (is_wanted (history_of new)) file.outcome ≡ Ok tt → AppendsFile file old txns new txns' (Ok tt)
file_gathered old new txns txns' file one end = (
  one.0,
  ap (read_end file) one.1 ∙ ap (ended_by (reading_at new one.0)) end,
  one.2,
)

-- the end of a file has no other fault than the file's
end_broken : (old new : Chain) (txns txns' : List Txn) (file : LogFile) (fault : RestoreFault) → AppendsEntries file.entries.items old txns new txns' (Ok tt) → end_of (is_wanted (history_of new)) file.outcome ≡ Err fault → read_file (reading_at old []) file ≡ Err fault
end_broken old new txns txns' file fault one end = ap (read_end file) one.1 ∙ ap (ended_by (reading_at new one.0)) end

as_file : (old new : Chain) (txns txns' : List Txn) (file : LogFile) (fault : RestoreFault) → read_file (reading_at old []) file ≡ Err fault → AppendsFile file old txns new txns' (Err fault)
as_file old new txns txns' file faults.NoMemory e = tt
as_file old new txns txns' file fault e = e

pub end_gathered : (old new : Chain) (txns txns' : List Txn) (file : LogFile) (result : Result (Unit {0}) RestoreFault) → AppendsEntries file.entries.items old txns new txns' (Ok tt) → result ≡ end_of (is_wanted (history_of new)) file.outcome → AppendsFile file old txns new txns' result
end_gathered old new txns txns' file (Ok done) one end = file_gathered old new txns txns' file one (sym end)
end_gathered old new txns txns' file (Err fault) one end = as_file old new txns txns' file fault (end_broken old new txns txns' file fault one (sym end))

pub entries_broken : (old new : Chain) (txns txns' : List Txn) (file : LogFile) (fault : RestoreFault) → AppendsEntries file.entries.items old txns new txns' (Err fault) → AppendsFile file old txns new txns' (Err fault)
entries_broken old new txns txns' file faults.NoMemory one = tt
entries_broken old new txns txns' file fault one = ap (read_end file) one

pub log_broken : (old new : Chain) (txns txns' : List Txn) (bytes : List ℕ) (file : LogFile) (result : Result (Unit {0}) RestoreFault) → IsLogFile bytes file → AppendsFile file old txns new txns' result → AppendsLog bytes old txns new txns' result
log_broken old new txns txns' bytes file (Ok done) is one = (file, is, one)
log_broken old new txns txns' bytes file (Err faults.NoMemory) is one = tt
log_broken old new txns txns' bytes file (Err fault) is one = (file, is, one)

-- ---- logs

-- the logs before the place i were gathered
pub record AreGathered (start : Chain) (txns : List Txn) (logs : List (Bor (List ℕ))) (i : ℕ) (chain : Chain) (now : List Txn) : Type 0 where
  pub upto : chain.upto ≡ None
  pub files : List LogFile
  pub of_logs : AreLogFiles (take i logs) files
  pub records : List NewerRecord
  pub read : read_files (Ok (reading_at start [])) files ≡ Ok (reading_at chain records)
  pub all : now ≡ txns ++ map txn_of records

pub no_log : (start : Chain) (txns : List Txn) (logs : List (Bor (List ℕ))) → start.upto ≡ None → AreGathered start txns logs 0 start txns
no_log start txns logs none = record { upto = none; files = []; of_logs = tt; records = []; read = no_files (Ok (reading_at start [])); all = sym (append-nil txns) }

-- one file more, after records
file_after : (start chain : Chain) (files : List LogFile) (records : List NewerRecord) (file : LogFile) (x : Result Reading RestoreFault) → read_files (Ok (reading_at start [])) files ≡ Ok (reading_at chain records) → read_file (reading_at chain []) file ≡ x
    → read_files (Ok (reading_at start [])) (files ++ file ∷ []) ≡ all_behind records x
file_after start chain files records file x so_far one =
    then_files (Ok (reading_at start [])) files (file ∷ [])
    ∙ ap (λ r. read_files r (file ∷ [])) so_far
    ∙ files_on (Ok (reading_at chain records)) file []
    ∙ no_files (read_file (reading_at chain records) file)
    ∙ ap (λ l. read_file (reading_at chain l) file) (sym (append-nil records))
    ∙ file_behind records (reading_at chain []) file
    ∙ ap (all_behind records) one

pub next_log : (start : Chain) (txns : List Txn) (logs : List (Bor (List ℕ))) (i : ℕ) (old new : Chain) (now now' : List Txn) → i < length logs → AreGathered start txns logs i old now → new.upto ≡ None → AppendsLog (get_or logs i no_bytes).now old now new now' (Ok tt) → AreGathered start txns logs (i + 1) new now'
next_log start txns logs i old new now now' lt so_far none log = record {
  upto = none;
  files = so_far.files ++ log.0 ∷ [];
  of_logs = taken_more logs i so_far.files log.0 lt so_far.of_logs log.1;
  records = so_far.records ++ log.2.0;
  read = file_after start old so_far.files so_far.records log.0 (Ok (reading_at new log.2.0)) so_far.read log.2.1;
  all =
      log.2.2
      ∙ ap (λ l. l ++ map txn_of log.2.0) so_far.all
      ∙ append_assoc txns (map txn_of so_far.records) (map txn_of log.2.0)
      ∙ ap (λ l. txns ++ l) (sym (gathered_append so_far.records log.2.0));
}

pub all_logs : (start : Chain) (txns : List Txn) (logs : List (Bor (List ℕ))) (i : ℕ) (chain : Chain) (now : List Txn) → length logs ≤ i → AreGathered start txns logs i chain now → AppendsLogs logs start txns now (Ok tt)
all_logs start txns logs i chain now le so_far = (so_far.files, subst (λ l. AreLogFiles l so_far.files) (take_all i logs le) so_far.of_logs, (reading_at chain so_far.records, so_far.read, so_far.all))

failed_at : (start chain : Chain) (txns now : List Txn) (logs : List (Bor (List ℕ))) (i : ℕ) (fault : RestoreFault) (file : LogFile) → i < length logs → AreGathered start txns logs i chain now → IsLogFile (get_or logs i no_bytes).now file → read_file (reading_at chain []) file ≡ Err fault
    → (files : List LogFile) × AreLogFiles (take (i + 1) logs) files × (read_files (Ok (reading_at start [])) files ≡ Err fault)
failed_at start chain txns now logs i fault file lt so_far is e = (
  so_far.files ++ file ∷ [],
  taken_more logs i so_far.files file lt so_far.of_logs is,
  file_after start chain so_far.files so_far.records file (Err fault) so_far.read e,
)

pub log_fails : (start chain new : Chain) (txns now now' : List Txn) (logs : List (Bor (List ℕ))) (i : ℕ) (fault : RestoreFault) → i < length logs → AreGathered start txns logs i chain now → AppendsLog (get_or logs i no_bytes).now chain now new now' (Err fault) → FailsBy logs start i fault
log_fails start chain new txns now now' logs i faults.NoMemory lt so_far log = tt
log_fails start chain new txns now now' logs i fault lt so_far log = failed_at start chain txns now logs i fault log.0 lt so_far log.1 log.2

-- ---- the transactions after a zxid

chain_is : (chain : Chain) (zxid : Option ℤ) → chain.base ≡ zxid → chain.upto ≡ None → chain.position ≡ zxid → chain.taken.items ≡ [] → reading_at chain [] ≡ first_reading zxid
chain_is chain zxid base upto position taken =
    ap (λ b. let r : Reading = record { history = record { base = b; upto = chain.upto; position = chain.position; taken = map told chain.taken.items }; records = []; window = None; is_over = false } in r) base
    ∙ ap (λ u. let r : Reading = record { history = record { base = zxid; upto = u; position = chain.position; taken = map told chain.taken.items }; records = []; window = None; is_over = false } in r) upto
    ∙ ap (λ p. let r : Reading = record { history = record { base = zxid; upto = None; position = p; taken = map told chain.taken.items }; records = []; window = None; is_over = false } in r) position
    ∙ ap (λ l. let r : Reading = record { history = record { base = zxid; upto = None; position = zxid; taken = map told l }; records = []; window = None; is_over = false } in r) taken

-- the empty tree is before all
pub all_later : (txns : List Txn) → txns ≡ filter (is_later None) txns
all_later [] = refl
all_later (txn ∷ txns) = ap (λ l. txn ∷ l) (all_later txns)

pub found_later : (logs : List (Bor (List ℕ))) (zxid : Option ℤ) (chain : Chain) (txns kept : List Txn) → chain.base ≡ zxid → chain.upto ≡ None → chain.position ≡ zxid → chain.taken.items ≡ [] → AppendsLogs logs chain [] txns (Ok tt) → kept ≡ filter (is_later zxid) txns → AreLater logs zxid kept
found_later logs zxid chain txns kept base upto position taken all is = record {
  files = all.0;
  of_logs = all.1;
  reading = all.2.0;
  of_files = sym (ap (λ r. read_files (Ok r) all.0) (chain_is chain zxid base upto position taken)) ∙ all.2.1;
  later = is ∙ ap (filter (is_later zxid)) all.2.2;
}

broken_later : (logs : List (Bor (List ℕ))) (logged : List ℤ) (zxid : Option ℤ) (chain : Chain) (failed : DirectoryFault) → reading_at chain [] ≡ first_reading zxid
    → (all : (files : List LogFile) × AreLogFiles (take (failed.log + 1) logs) files × (read_files (Ok (reading_at chain [])) files ≡ Err failed.fault)) → BreaksLater logs logged zxid (history_fault failed (pos 0) logged)
broken_later logs logged zxid chain failed start all = record {
  failed = failed;
  files = all.0;
  of_logs = all.1;
  of_files = sym (ap (λ r. read_files (Ok r) all.0) start) ∙ all.2;
  is = refl;
}

-- as the contract says it
broken_by : (logs : List (Bor (List ℕ))) (logged : List ℤ) (zxid : Option ℤ) (fault : HistoryFault) → BreaksLater logs logged zxid fault → FindsLater logs logged zxid (Err fault)
broken_by logs logged zxid history_faults.NoMemory b = tt
broken_by logs logged zxid fault b = b

fails_by : (logs : List (Bor (List ℕ))) (logged : List ℤ) (zxid : Option ℤ) (chain : Chain) (log : ℕ) (fault : RestoreFault) → reading_at chain [] ≡ first_reading zxid → FailsBy logs chain log fault
    → (let failed : DirectoryFault = record { log = log; fault = fault } in FindsLater logs logged zxid (Err (history_fault failed (pos 0) logged)))
fails_by logs logged zxid chain log faults.NoMemory start f = tt
fails_by logs logged zxid chain log fault start f =
    let failed : DirectoryFault = record { log = log; fault = fault } in
    broken_by logs logged zxid (history_fault failed (pos 0) logged) (broken_later logs logged zxid chain failed start f)

pub breaks_later : (logs : List (Bor (List ℕ))) (logged : List ℤ) (zxid : Option ℤ) (chain : Chain) (txns txns' : List Txn) (failed : DirectoryFault) → chain.base ≡ zxid → chain.upto ≡ None → chain.position ≡ zxid → chain.taken.items ≡ [] → AppendsLogs logs chain txns txns' (Err failed)
    → FindsLater logs logged zxid (Err (history_fault failed (pos 0) logged))
breaks_later logs logged zxid chain txns txns' failed base upto position taken f =
    fails_by logs logged zxid chain failed.log failed.fault (chain_is chain zxid base upto position taken) f

-- ---- the logs of a folder

found_by : (log_bytes : List ℕ → Option (List ℕ)) (logged rest : List ℤ) (zxid : Option ℤ) (loaded : List (List ℕ)) (logs : List (Bor (List ℕ))) (answer : Result (Vec Txn Global) HistoryFault) → rest ≡ logs_after zxid logged → AreGiven log_bytes rest loaded → map bytes_of logs ≡ loaded → FindsLater logs rest zxid answer → LaterIn log_bytes logged zxid answer
found_by log_bytes logged rest zxid loaded logs answer is given same found = record {
  logs = logs;
  given = subst (λ (l : List ℤ). AreGiven log_bytes l (map bytes_of logs)) is (subst (AreGiven log_bytes rest) (sym same) given);
  found = subst (λ (l : List ℤ). FindsLater logs l zxid answer) is found;
}

pub found_in : (log_bytes : List ℕ → Option (List ℕ)) (logged rest : List ℤ) (zxid : Option ℤ) (loaded : List (List ℕ)) (logs : List (Bor (List ℕ))) (answer : Result (Vec Txn Global) HistoryFault) → rest ≡ logs_after zxid logged → AreGiven log_bytes rest loaded → map bytes_of logs ≡ loaded → FindsLater logs rest zxid answer → FindsLaterIn log_bytes logged zxid answer
found_in log_bytes logged rest zxid loaded logs (Ok txns) is given same found = found_by log_bytes logged rest zxid loaded logs (Ok txns) is given same found
found_in log_bytes logged rest zxid loaded logs (Err fault) is given same found = inr (found_by log_bytes logged rest zxid loaded logs (Err fault) is given same found)
