-- The lines of several files, one after another.
use Rattle.std.proofs.Common.{◌≡◌, inl, inr, ℕ, ◌+◌, ◌-◌, ◌<◌, ◌≤◌, ℤ, pos, List, [], ◌∷◌, ◌++◌, length, drop, map, get_or, slice_get, Option, Some, None, Result, Ok, Err, String, refl, sym, ap, ◌∙◌, subst, append_assoc, append-nil}
use Rattle.std.proofs.lemmas.List.{drop_all, drop_more}
use Rattle.std.specs.Global.{Global}
use Rattle.std.specs.String.{string_bytes}
use Rattle.zk_directory_state.specs.Files.{AddsLogs, AddsSnapshots, AreLogLines, AreSnapshotLines, LinesOf, ListsFiles, PushesLog, PushesSnapshot, ends_by, ends_text, gap_text, gaps_text, last_after, later_of}
use Rattle.zk_directory_state.specs.Folders.{IsGiven}
use Rattle.zk_directory_state.specs.Names.{AreZxidsBy, log_zxid, snapshot_zxid}
use Rattle.zk_directory_state.specs.Logs.{AreUnlisted}
use Rattle.zk_directory_state.proofs.Unreading.{a_file, the_logs, the_snapshots}
use Rattle.zk_directory_state.specs.declared.fault.HistoryFault.{HistoryFault}
use Rattle.zk_directory_state.specs.declared.fault.HistoryFault.TheVariants as faults
use Rattle.zk_format.specs.Spelling.{id_digits}
use Rattle.zk_directory.specs.declared.file.FileEntry.{FileEntry}

-- ---- snapshots

-- the lines so far, followed by those of the rest, are all
abbrev pub SnapshotsSoFar : (List ℕ → Option (List ℕ)) → List ℤ → ℕ → List ℕ → List ℕ → Type 0
SnapshotsSoFar bytes_in zxids i old text = (more : List ℕ) → AreSnapshotLines bytes_in (drop i zxids) more → AddsSnapshots bytes_in zxids old (text ++ more)

pub snapshots_more : (bytes_in : List ℕ → Option (List ℕ)) (zxids : List ℤ) (i : ℕ) (zxid : ℤ) (old text text' : List ℕ) → i < length zxids → get_or zxids i (pos 0) ≡ zxid
    → SnapshotsSoFar bytes_in zxids i old text → PushesSnapshot bytes_in zxid text text' → SnapshotsSoFar bytes_in zxids (i + 1) old text'
snapshots_more bytes_in zxids i zxid old text text' within is so_far (line, adds, e) = λ more lines.
    let first : drop i zxids ≡ zxid ∷ drop (i + 1) zxids = drop_more zxids i (pos 0) within ∙ ap (λ z. z ∷ drop (i + 1) zxids) is in
    let all : AreSnapshotLines bytes_in (drop i zxids) (line ++ more) = subst (λ l. AreSnapshotLines bytes_in l (line ++ more)) (sym first) (line, more, adds, lines, refl) in
    subst (λ t. AddsSnapshots bytes_in zxids old t) (sym (append_assoc text line more) ∙ ap (λ t. t ++ more) (sym e)) (so_far (line ++ more) all)

pub snapshots_all : (bytes_in : List ℕ → Option (List ℕ)) (zxids : List ℤ) (i : ℕ) (old text : List ℕ) → length zxids ≤ i → SnapshotsSoFar bytes_in zxids i old text → AddsSnapshots bytes_in zxids old text
snapshots_all bytes_in zxids i old text end so_far =
    subst (λ t. AddsSnapshots bytes_in zxids old t) (append-nil text) (so_far [] (subst (λ l. AreSnapshotLines bytes_in l []) (sym (drop_all i zxids end)) refl))

-- ---- logs

abbrev pub LogsSoFar : (List ℕ → Option (List ℕ)) → List ℤ → ℕ → Option ℤ → List ℕ → List ℕ → Type 0
LogsSoFar bytes_in zxids i last old text = (more : List ℕ) → AreLogLines bytes_in (drop i zxids) last more → AddsLogs bytes_in zxids None old (text ++ more)

pub logs_more : (bytes_in : List ℕ → Option (List ℕ)) (zxids : List ℤ) (i : ℕ) (zxid : ℤ) (last after : Option ℤ) (old text text' : List ℕ) → i < length zxids → get_or zxids i (pos 0) ≡ zxid
    → LogsSoFar bytes_in zxids i last old text → PushesLog bytes_in zxid last text text' after → LogsSoFar bytes_in zxids (i + 1) after old text'
logs_more bytes_in zxids i zxid last after old text text' within is so_far (line, adds, e) = λ more lines.
    let first : drop i zxids ≡ zxid ∷ drop (i + 1) zxids = drop_more zxids i (pos 0) within ∙ ap (λ z. z ∷ drop (i + 1) zxids) is in
    let all : AreLogLines bytes_in (drop i zxids) last (line ++ more) = subst (λ l. AreLogLines bytes_in l last (line ++ more)) (sym first) (line, after, more, adds, lines, refl) in
    subst (λ t. AddsLogs bytes_in zxids None old t) (sym (append_assoc text line more) ∙ ap (λ t. t ++ more) (sym e)) (so_far (line ++ more) all)

pub logs_all : (bytes_in : List ℕ → Option (List ℕ)) (zxids : List ℤ) (i : ℕ) (last : Option ℤ) (old text : List ℕ) → length zxids ≤ i → LogsSoFar bytes_in zxids i last old text → AddsLogs bytes_in zxids None old text
logs_all bytes_in zxids i last old text end so_far =
    subst (λ t. AddsLogs bytes_in zxids None old t) (append-nil text) (so_far [] (subst (λ l. AreLogLines bytes_in l last []) (sym (drop_all i zxids end)) refl))

-- ---- gaps

-- one entry more
pub gaps_more : (entries : List FileEntry) (i : ℕ) (entry : FileEntry) (last after : Option ℤ) (text text' whole : List ℕ) → i < length entries → entry ≡ get_or entries i entry
    → text ++ gaps_text last (drop i entries) ≡ whole → text' ≡ text ++ gap_text last entry.newer.txn.zxid → after ≡ later_of last entry.newer.txn.zxid → text' ++ gaps_text after (drop (i + 1) entries) ≡ whole
gaps_more entries i entry last after text text' whole within is so_far e l =
    let first : drop i entries ≡ entry ∷ drop (i + 1) entries = drop_more entries i entry within ∙ ap (λ x. x ∷ drop (i + 1) entries) (sym is) in
    ap (λ t. t ++ gaps_text after (drop (i + 1) entries)) e ∙ ap (λ o. text ++ gap_text last entry.newer.txn.zxid ++ gaps_text o (drop (i + 1) entries)) l
    ∙ append_assoc text (gap_text last entry.newer.txn.zxid) (gaps_text (later_of last entry.newer.txn.zxid) (drop (i + 1) entries)) ∙ ap (λ es. text ++ gaps_text last es) (sym first) ∙ so_far

pub last_more : (entries : List FileEntry) (i : ℕ) (entry : FileEntry) (last after whole : Option ℤ) → i < length entries → entry ≡ get_or entries i entry → last_after last (drop i entries) ≡ whole → after ≡ later_of last entry.newer.txn.zxid
    → last_after after (drop (i + 1) entries) ≡ whole
last_more entries i entry last after whole within is so_far l =
    let first : drop i entries ≡ entry ∷ drop (i + 1) entries = drop_more entries i entry within ∙ ap (λ x. x ∷ drop (i + 1) entries) (sym is) in
    ap (λ o. last_after o (drop (i + 1) entries)) l ∙ ap (λ es. last_after last es) (sym first) ∙ so_far

-- ---- a log's ends

pub ends_of : (entries : List FileEntry) (first last : FileEntry) (old mid new : List ℕ) → Some first ≡ slice_get entries 0 → Some last ≡ slice_get entries (length entries - 1)
    → mid ≡ old ++ 32 ∷ id_digits first.newer.txn.zxid → new ≡ mid ++ 32 ∷ id_digits last.newer.txn.zxid → new ≡ old ++ ends_text entries
ends_of entries first last old mid new p q e f =
    let a = 32 ∷ id_digits first.newer.txn.zxid in
    let b = 32 ∷ id_digits last.newer.txn.zxid in
    f ∙ ap (λ l. l ++ b) e ∙ append_assoc old a b ∙ ap (λ o. old ++ ends_by o (Some last)) p ∙ ap (λ o. old ++ ends_by (slice_get entries 0) o) q

-- ---- all files

pub lists_of : (snapshots logs : Option (List (List ℕ))) (snapshot_bytes log_bytes : List ℕ → Option (List ℕ)) (snapshot_names log_names : List (String Global)) (held logged : List ℤ) (result : Result (String Global) HistoryFault)
    → IsGiven snapshots (map string_bytes snapshot_names) → IsGiven logs (map string_bytes log_names) → AreZxidsBy (λ name. snapshot_zxid (string_bytes name)) snapshot_names held → AreZxidsBy (λ name. log_zxid (string_bytes name)) log_names logged
    → LinesOf snapshot_bytes log_bytes held logged snapshot_names log_names result → ListsFiles snapshots snapshot_bytes logs log_bytes result
lists_of snapshots logs snapshot_bytes log_bytes snapshot_names log_names held logged (Ok text) g h p q l = record {
  snapshot_names = snapshot_names;
  log_names = log_names;
  snapshot_zxids = held;
  log_zxids = logged;
  snapshot_lines = l.0;
  log_lines = l.1;
  snapshots_given = g;
  logs_given = h;
  are_snapshots = p;
  are_logs = q;
  snapshots_listed = l.2;
  logs_listed = l.3;
  lines = l.4;
}
lists_of snapshots logs snapshot_bytes log_bytes snapshot_names log_names held logged (Err fault) g h p q l = inr (a_file snapshot_bytes log_bytes snapshots logs fault l)

pub snapshots_unlisted : (snapshots logs : Option (List (List ℕ))) (snapshot_bytes log_bytes : List ℕ → Option (List ℕ)) (fault : HistoryFault) → AreUnlisted snapshots fault → ListsFiles snapshots snapshot_bytes logs log_bytes (Err fault)
snapshots_unlisted snapshots logs snapshot_bytes log_bytes fault unlisted = inr (the_snapshots snapshot_bytes log_bytes snapshots logs fault unlisted)

pub logs_unlisted : (snapshots logs : Option (List (List ℕ))) (snapshot_bytes log_bytes : List ℕ → Option (List ℕ)) (fault : HistoryFault) → AreUnlisted logs fault → ListsFiles snapshots snapshot_bytes logs log_bytes (Err fault)
logs_unlisted snapshots logs snapshot_bytes log_bytes fault unlisted = inr (the_logs snapshot_bytes log_bytes snapshots logs fault unlisted)
