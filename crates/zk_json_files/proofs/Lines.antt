-- The lines of several files, one after another.
use Rattle.std.proofs.Common.{◌≡◌, codes, inl, inr, Bool, true, false, ℕ, ◌+◌, ◌-◌, ◌<◌, ◌≤◌, ℤ, pos, List, [], ◌∷◌, ◌++◌, length, drop, map, get_or, Option, Some, None, Result, Ok, Err, String, refl, sym, ap, ◌∙◌, subst, append_assoc, append-nil}
use Rattle.std.proofs.lemmas.List.{drop_all, drop_more}
use Rattle.std.specs.Global.{Global}
use Rattle.std.specs.String.{string_bytes}
use Rattle.zk_directory_state.specs.Files.{has_gap, later_of}
use Rattle.zk_json_files.specs.Files.{AppendsLogs, AppendsSnapshots, AreLogs, AreSnapshots, LinesOf, ListsObjects, PushesLog, PushesSnapshot}
use Rattle.zk_json.specs.Json.{AppendsLineOf, id_of, object_of}
use Rattle.zk_json_files.specs.Logs.{AppendsGaps, AppendsLog, AreGapLines, end_of, fault_at, fault_by, gap_after, gap_before, gap_fields, gaps_in, head_fields, log_fields, torn_at}
use Rattle.zk_directory_state.specs.Folders.{IsGiven}
use Rattle.zk_directory_state.specs.Logs.{AreUnlisted}
use Rattle.zk_directory_state.proofs.Unreading.{a_file, the_logs, the_snapshots}
use Rattle.zk_json_files.specs.Unread.{AppendsUnread, AppendsUnreadBy, AppendsUnreadIn, AreUnreadLines, IsUnreadLine, log_instead, snapshot_instead}
use Rattle.zk_directory_state.specs.Names.{AreZxidsBy, log_zxid, snapshot_zxid}
use Rattle.zk_directory_state.specs.declared.fault.HistoryFault.{HistoryFault}
use Rattle.zk_directory.specs.declared.file.FileEntry.{FileEntry}
use Rattle.zk_directory.specs.declared.file.LogFile.{LogFile}
use Rattle.zk_path.specs.declared.memory.NoMemory.{NoMemory}
use Rattle.std.specs.Prelude.{OnOk, decimal, not}
use Rattle.json.specs.Json.{Json, boolean, null, number, string}
use Rattle.zk_log.specs.declared.loaded.Ending.{Ending}
use Rattle.zk_directory.specs.declared.file.LogFileFault.{LogFileFault}
use Rattle.zk_replay.specs.Bases.{exact_from}
use Rattle.zk_snapshot.specs.declared.snapshot.Snapshot.{Snapshot}
use Rattle.zk_json_files.specs.Snapshots.{contents_fields, snapshot_fields}

-- ---- a snapshot

pub contents_stated : (r : Result (Unit {0}) NoMemory) (name : List ℕ) (zxid : ℤ) (snapshot : Snapshot) (old new : List ℕ) (nodes sessions : ℕ) (exact : ℤ) (later : Bool)
    → OnOk r (AppendsLineOf (object_of (snapshot_fields name (number (decimal nodes)) (number (decimal sessions)) (id_of exact) (boolean later) null)) old new)
    → nodes ≡ length snapshot.contents.nodes → sessions ≡ length snapshot.contents.leases → exact ≡ (exact_from snapshot zxid).zxid → later ≡ not (exact_from snapshot zxid).is_told
    → OnOk r (AppendsLineOf (object_of (contents_fields name zxid snapshot)) old new)
contents_stated r name zxid snapshot old new nodes sessions exact later h a b c d =
    let stated = λ (n s : ℕ) (e : ℤ) (l : Bool). OnOk r (AppendsLineOf (object_of (snapshot_fields name (number (decimal n)) (number (decimal s)) (id_of e) (boolean l) null)) old new) in
    let nodes' = length snapshot.contents.nodes in
    let sessions' = length snapshot.contents.leases in
    let exact' = (exact_from snapshot zxid).zxid in
    subst (stated nodes' sessions' exact') d (subst (λ e. stated nodes' sessions' e later) c (subst (λ s. stated nodes' s exact later) b (subst (λ n. stated n sessions exact later) a h)))

-- ---- snapshots

-- the lines so far, followed by those of the rest, are all
abbrev pub SnapshotsSoFar : (List ℕ → Option (List ℕ)) → List ℤ → ℕ → List ℕ → List ℕ → Type 0
SnapshotsSoFar bytes_in zxids i old text = (more : List ℕ) → AreSnapshots bytes_in (drop i zxids) more → AppendsSnapshots bytes_in zxids old (text ++ more)

pub snapshots_more : (bytes_in : List ℕ → Option (List ℕ)) (zxids : List ℤ) (i : ℕ) (zxid : ℤ) (old text text' : List ℕ) → i < length zxids → get_or zxids i (pos 0) ≡ zxid
    → SnapshotsSoFar bytes_in zxids i old text → PushesSnapshot bytes_in zxid text text' → SnapshotsSoFar bytes_in zxids (i + 1) old text'
snapshots_more bytes_in zxids i zxid old text text' within is so_far (line, adds, e) = λ more lines.
    let first : drop i zxids ≡ zxid ∷ drop (i + 1) zxids = drop_more zxids i (pos 0) within ∙ ap (λ z. z ∷ drop (i + 1) zxids) is in
    let all : AreSnapshots bytes_in (drop i zxids) (line ++ more) = subst (λ l. AreSnapshots bytes_in l (line ++ more)) (sym first) (line, more, adds, lines, refl) in
    subst (λ t. AppendsSnapshots bytes_in zxids old t) (sym (append_assoc text line more) ∙ ap (λ t. t ++ more) (sym e)) (so_far (line ++ more) all)

pub snapshots_all : (bytes_in : List ℕ → Option (List ℕ)) (zxids : List ℤ) (i : ℕ) (old text : List ℕ) → length zxids ≤ i → SnapshotsSoFar bytes_in zxids i old text → AppendsSnapshots bytes_in zxids old text
snapshots_all bytes_in zxids i old text end so_far =
    subst (λ t. AppendsSnapshots bytes_in zxids old t) (append-nil text) (so_far [] (subst (λ l. AreSnapshots bytes_in l []) (sym (drop_all i zxids end)) refl))

-- ---- logs

abbrev pub LogsSoFar : (List ℕ → Option (List ℕ)) → List ℤ → ℕ → Option ℤ → List ℕ → List ℕ → Type 0
LogsSoFar bytes_in zxids i last old text = (more : List ℕ) → AreLogs bytes_in (drop i zxids) last more → AppendsLogs bytes_in zxids None old (text ++ more)

pub logs_more : (bytes_in : List ℕ → Option (List ℕ)) (zxids : List ℤ) (i : ℕ) (zxid : ℤ) (last after : Option ℤ) (old text text' : List ℕ) → i < length zxids → get_or zxids i (pos 0) ≡ zxid
    → LogsSoFar bytes_in zxids i last old text → PushesLog bytes_in zxid last text text' after → LogsSoFar bytes_in zxids (i + 1) after old text'
logs_more bytes_in zxids i zxid last after old text text' within is so_far (line, adds, e) = λ more lines.
    let first : drop i zxids ≡ zxid ∷ drop (i + 1) zxids = drop_more zxids i (pos 0) within ∙ ap (λ z. z ∷ drop (i + 1) zxids) is in
    let all : AreLogs bytes_in (drop i zxids) last (line ++ more) = subst (λ l. AreLogs bytes_in l last (line ++ more)) (sym first) (line, after, more, adds, lines, refl) in
    subst (λ t. AppendsLogs bytes_in zxids None old t) (sym (append_assoc text line more) ∙ ap (λ t. t ++ more) (sym e)) (so_far (line ++ more) all)

pub logs_all : (bytes_in : List ℕ → Option (List ℕ)) (zxids : List ℤ) (i : ℕ) (last : Option ℤ) (old text : List ℕ) → length zxids ≤ i → LogsSoFar bytes_in zxids i last old text → AppendsLogs bytes_in zxids None old text
logs_all bytes_in zxids i last old text end so_far =
    subst (λ t. AppendsLogs bytes_in zxids None old t) (append-nil text) (so_far [] (subst (λ l. AreLogs bytes_in l last []) (sym (drop_all i zxids end)) refl))

-- ---- gaps

-- the gaps so far, followed by those of the rest, are all
abbrev pub GapsSoFar : List ℕ → Option ℤ → List FileEntry → ℕ → Option ℤ → List ℕ → List ℕ → Type 0
GapsSoFar name first entries i last old text = (more : List ℕ) → AreGapLines name (gaps_in last (drop i entries)) more → AppendsGaps name (gaps_in first entries) old (text ++ more)

-- the lines of some gaps, and of others after them
pub gaps_joined : (name : List ℕ) (gaps others : List (ℤ × ℤ)) (text more : List ℕ) → AreGapLines name gaps text → AreGapLines name others more → AreGapLines name (gaps ++ others) (text ++ more)
gaps_joined name [] others text more e h = subst (λ (t : List ℕ). AreGapLines name others (t ++ more)) (sym e) h
gaps_joined name (gap ∷ gaps) others text more e h = (e.0, e.1 ++ more, e.2, gaps_joined name gaps others e.1 more e.3 h, ap (λ t. t ++ more) e.4 ∙ append_assoc e.0 e.1 more)

-- one entry more
pub gaps_more : (name : List ℕ) (entries : List FileEntry) (i : ℕ) (entry : FileEntry) (first last after : Option ℤ) (old text text' : List ℕ) → i < length entries → entry ≡ get_or entries i entry
    → GapsSoFar name first entries i last old text → AppendsGaps name (gap_before last entry.newer.txn.zxid) text text' → after ≡ later_of last entry.newer.txn.zxid → GapsSoFar name first entries (i + 1) after old text'
gaps_more name entries i entry first last after old text text' within is so_far h l = λ more lines.
    let here : drop i entries ≡ entry ∷ drop (i + 1) entries = drop_more entries i entry within ∙ ap (λ x. x ∷ drop (i + 1) entries) (sym is) in
    let zxid = entry.newer.txn.zxid in
    let rest : AreGapLines name (gaps_in (later_of last zxid) (drop (i + 1) entries)) more = subst (λ (o : Option ℤ). AreGapLines name (gaps_in o (drop (i + 1) entries)) more) l lines in
    let all : AreGapLines name (gaps_in last (drop i entries)) (h.0 ++ more) = subst (λ (es : List FileEntry). AreGapLines name (gaps_in last es) (h.0 ++ more)) (sym here) (gaps_joined name (gap_before last zxid) (gaps_in (later_of last zxid) (drop (i + 1) entries)) h.0 more h.1 rest) in
    subst (λ t. AppendsGaps name (gaps_in first entries) old t) (sym (append_assoc text h.0 more) ∙ ap (λ t. t ++ more) (sym h.2)) (so_far (h.0 ++ more) all)

pub gaps_all : (name : List ℕ) (entries : List FileEntry) (i : ℕ) (first last : Option ℤ) (old text : List ℕ) → length entries ≤ i → GapsSoFar name first entries i last old text → AppendsGaps name (gaps_in first entries) old text
gaps_all name entries i first last old text end so_far =
    subst (λ t. AppendsGaps name (gaps_in first entries) old t) (append-nil text) (so_far [] (subst (λ (es : List FileEntry). AreGapLines name (gaps_in last es) []) (sym (drop_all i entries end)) refl))

-- ---- a log

pub head_stated : (r : Result (Unit {0}) NoMemory) (name : List ℕ) (records : ℕ) (first last : Json) (outcome : Result Ending LogFileFault) (old new : List ℕ) (records' : ℕ) (end' torn' fault' at' : Json)
    → OnOk r (AppendsLineOf (object_of ((codes "log", string name) ∷ (codes "records", number (decimal records')) ∷ (codes "first", first) ∷ (codes "last", last) ∷ (codes "end", end') ∷ (codes "tornAt", torn') ∷ (codes "fault", fault') ∷ (codes "at", at') ∷ [])) old new)
    → records' ≡ records → end' ≡ end_of outcome → torn' ≡ torn_at outcome → fault' ≡ fault_by outcome → at' ≡ fault_at outcome → OnOk r (AppendsLineOf (object_of (head_fields name records first last outcome)) old new)
head_stated r name records first last outcome old new records' end' torn' fault' at' h n e t f a =
    let stated = λ (n : ℕ) (e t f a : Json). OnOk r (AppendsLineOf (object_of ((codes "log", string name) ∷ (codes "records", number (decimal n)) ∷ (codes "first", first) ∷ (codes "last", last) ∷ (codes "end", e) ∷ (codes "tornAt", t) ∷ (codes "fault", f) ∷ (codes "at", a) ∷ [])) old new) in
    subst (stated records (end_of outcome) (torn_at outcome) (fault_by outcome)) a
    (subst (λ x. stated records (end_of outcome) (torn_at outcome) x at') f (subst (λ x. stated records (end_of outcome) x fault' at') t (subst (λ x. stated records x torn' fault' at') e (subst (λ x. stated x end' torn' fault' at') n h))))

-- its object, and those of its gaps
pub logged : (r : Result (Option ℤ) NoMemory) (name : List ℕ) (last : Option ℤ) (file : LogFile) (old text new : List ℕ) → AppendsLineOf (object_of (log_fields name file)) old text → OnOk r (AppendsGaps name (gaps_in last file.entries.items) text new)
    → OnOk r (AppendsLog name last file old new)
logged (Ok after) name last file old text new h g = (h.0 ++ g.0, record { log = h.0; gaps = g.0; is_log = h.1; are_gaps = g.1; is = refl }, g.2 ∙ ap (λ t. t ++ g.0) h.2 ∙ append_assoc old h.0 g.0)
logged (Err refused) name last file old text new h g = tt

pub no_gap : (name old : List ℕ) → AppendsGaps name [] old old
no_gap name old = ([], refl, sym (append-nil old))

pub without_gap : (name : List ℕ) (last zxid : ℤ) (old : List ℕ) → false ≡ has_gap last zxid → AppendsGaps name (gap_after last zxid) old old
without_gap name last zxid old e = rw (← e) (no_gap name old)

pub one_gap : (name : List ℕ) (gap : ℤ × ℤ) (old new : List ℕ) → AppendsLineOf (object_of (gap_fields name gap)) old new → AppendsGaps name (gap ∷ []) old new
one_gap name gap old new h = (h.0, (h.0, [], h.1, refl, sym (append-nil h.0)), h.2)

pub with_gap : (name : List ℕ) (last zxid : ℤ) (old new : List ℕ) → true ≡ has_gap last zxid → AppendsLineOf (object_of (gap_fields name (last, zxid))) old new → AppendsGaps name (gap_after last zxid) old new
with_gap name last zxid old new e h = rw (← e) (one_gap name (last, zxid) old new h)

-- ---- files that are not read

abbrev pub UnreadSoFar : (List ℕ → Option (List ℕ)) → List (String Global) → ℕ → List ℕ → List ℕ → Type 0
UnreadSoFar instead names i old text = (more : List ℕ) → AreUnreadLines instead (drop i names) more → AppendsUnreadIn instead names old (text ++ more)

pub unread_more : (instead : List ℕ → Option (List ℕ)) (names : List (String Global)) (i : ℕ) (name : String Global) (read : Option (List ℕ)) (old text text' : List ℕ) → i < length names → name ≡ get_or names i name
    → UnreadSoFar instead names i old text → read ≡ instead (string_bytes name) → AppendsUnreadBy (string_bytes name) read text text' → UnreadSoFar instead names (i + 1) old text'
unread_more instead names i name read old text text' within is so_far r h = λ more lines.
    let first : drop i names ≡ name ∷ drop (i + 1) names = drop_more names i name within ∙ ap (λ x. x ∷ drop (i + 1) names) (sym is) in
    let line = subst (λ (o : Option (List ℕ)). IsUnreadLine (string_bytes name) o h.0) r h.1 in
    let all : AreUnreadLines instead (drop i names) (h.0 ++ more) = subst (λ (l : List (String Global)). AreUnreadLines instead l (h.0 ++ more)) (sym first) (h.0, more, line, lines, refl) in
    subst (λ t. AppendsUnreadIn instead names old t) (sym (append_assoc text h.0 more) ∙ ap (λ t. t ++ more) (sym h.2)) (so_far (h.0 ++ more) all)

pub unread_all : (instead : List ℕ → Option (List ℕ)) (names : List (String Global)) (i : ℕ) (old text : List ℕ) → length names ≤ i → UnreadSoFar instead names i old text → AppendsUnreadIn instead names old text
unread_all instead names i old text end so_far =
    subst (λ t. AppendsUnreadIn instead names old t) (append-nil text) (so_far [] (subst (λ (l : List (String Global)). AreUnreadLines instead l []) (sym (drop_all i names end)) refl))

pub unread_both : (r : Result (Unit {0}) NoMemory) (snapshot_names log_names : List (String Global)) (old text new : List ℕ) → AppendsUnreadIn snapshot_instead snapshot_names old text → OnOk r (AppendsUnreadIn log_instead log_names text new)
    → OnOk r (AppendsUnread snapshot_names log_names old new)
unread_both (Ok done) snapshot_names log_names old text new a b = (a.0 ++ b.0, record { snapshot_lines = a.0; log_lines = b.0; snapshots = a.1; logs = b.1; is = refl }, b.2 ∙ ap (λ t. t ++ b.0) a.2 ∙ append_assoc old a.0 b.0)
unread_both (Err refused) snapshot_names log_names old text new a b = tt

-- ---- all files

pub lists_of : (snapshots logs : Option (List (List ℕ))) (snapshot_bytes log_bytes : List ℕ → Option (List ℕ)) (snapshot_names log_names : List (String Global)) (held logged : List ℤ) (result : Result (String Global) HistoryFault)
    → IsGiven snapshots (map string_bytes snapshot_names) → IsGiven logs (map string_bytes log_names) → AreZxidsBy (λ name. snapshot_zxid (string_bytes name)) snapshot_names held → AreZxidsBy (λ name. log_zxid (string_bytes name)) log_names logged
    → LinesOf snapshot_bytes log_bytes held logged snapshot_names log_names result → ListsObjects snapshots snapshot_bytes logs log_bytes result
lists_of snapshots logs snapshot_bytes log_bytes snapshot_names log_names held logged (Ok text) g h p q l = record {
  snapshot_names = snapshot_names;
  log_names = log_names;
  snapshot_zxids = held;
  log_zxids = logged;
  snapshot_lines = l.0;
  log_lines = l.1;
  unread_lines = l.2;
  snapshots_given = g;
  logs_given = h;
  are_snapshots = p;
  are_logs = q;
  snapshots_listed = l.3;
  logs_listed = l.4;
  unread_listed = l.5;
  lines = l.6;
}
lists_of snapshots logs snapshot_bytes log_bytes snapshot_names log_names held logged (Err fault) g h p q l = inr (a_file snapshot_bytes log_bytes snapshots logs fault l)

pub snapshots_unlisted : (snapshots logs : Option (List (List ℕ))) (snapshot_bytes log_bytes : List ℕ → Option (List ℕ)) (fault : HistoryFault) → AreUnlisted snapshots fault → ListsObjects snapshots snapshot_bytes logs log_bytes (Err fault)
snapshots_unlisted snapshots logs snapshot_bytes log_bytes fault unlisted = inr (the_snapshots snapshot_bytes log_bytes snapshots logs fault unlisted)

pub logs_unlisted : (snapshots logs : Option (List (List ℕ))) (snapshot_bytes log_bytes : List ℕ → Option (List ℕ)) (fault : HistoryFault) → AreUnlisted logs fault → ListsObjects snapshots snapshot_bytes logs log_bytes (Err fault)
logs_unlisted snapshots logs snapshot_bytes log_bytes fault unlisted = inr (the_logs snapshot_bytes log_bytes snapshots logs fault unlisted)
