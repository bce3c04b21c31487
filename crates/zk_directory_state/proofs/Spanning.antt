-- The notice on a range, of logs that were walked.
use Rattle.std.proofs.Common.{◌≡◌, ◌⊎◌, inl, inr, ℕ, ℤ, ◌+◌, ◌<◌, List, [], ◌∷◌, ◌++◌, length, map, Option, Some, None, Result, Ok, Err, String, refl, sym, ap, ◌∙◌, subst}
use Rattle.std.specs.Borrow.{Bor}
use Rattle.std.specs.Global.{Global}
use Rattle.zk_directory_state.proofs.Unreading.{names_of_logs, snapshot_names}
use Rattle.zk_directory_state.specs.Histories.{AreIn, HoldsNone}
use Rattle.zk_directory_state.specs.Logs.{AreGiven, AreUnlisted, bytes_of}
use Rattle.zk_directory_state.specs.Losses.{AppendsLosses}
use Rattle.zk_directory_state.specs.Names.{log_zxid, snapshot_zxid}
use Rattle.zk_directory_state.specs.Records.{AreLogsIn, FoldsDirectory, FoldsGiven, FoldsListed, HaveNoAnswer, IsNotice, Notices}
use Rattle.zk_directory_state.specs.Spans.{IsRangeLine, IsRangeNotice, range_line}
use Rattle.zk_directory_state.specs.Walks.{FoldsLogs, Walked, WalksLogs, losses_of, start_walk, walked_by}
use Rattle.zk_directory_state.specs.declared.fault.HistoryFault.{HistoryFault}
use Rattle.zk_directory_state.specs.declared.fault.HistoryFault.TheVariants as history_faults
use Rattle.zk_directory_state.specs.declared.folded_directory.FoldedDirectory.{FoldedDirectory}
use Rattle.zk_directory_state.specs.declared.range.Range.{Range}
use Rattle.zk_directory_state.specs.declared.span.Span.{Span}
use Rattle.zk_directory_state.specs.declared.walk.Walk.{Walk}
use Rattle.zk_json.specs.Times.{AppendsTime, IsTimeText}
use Rattle.zk_newer_records.specs.declared.newer_record.NewerRecord.{NewerRecord}

-- ---- lines

pub clock : (time : ℤ) (old text : List ℕ) → old ≡ [] → AppendsTime old time text → IsTimeText time text
clock time old text none t = subst (IsTimeText time) (sym (t.2 ∙ ap (λ (o : List ℕ). o ++ t.0) none)) t.1

pub as_range_line : (span : Span) (first last line : List ℕ) → IsTimeText span.first.time first → IsTimeText span.last.time last → line ≡ range_line span first last → IsRangeLine span line
as_range_line span first last line f l is = (first, last, f, l, is)

pub said : (range : Range) (walked : Walked) (start lost text ranged : List ℕ) → start ≡ [] → AppendsLosses (losses_of walked) start lost → IsRangeNotice range walked.is_whole walked.span ranged → text ≡ lost ++ ranged → IsNotice range walked text
said range walked start lost text ranged none l r is = (l.0, ranged, l.1, r, is ∙ ap (λ (t : List ℕ). t ++ ranged) (l.2 ∙ ap (λ (t : List ℕ). t ++ l.0) none))

-- ---- the logs that were given

pub listed_folded : {S : Type 0} (follows : S → NewerRecord → S → Type 0) (logs : List (Bor (List ℕ))) (logged : List ℤ) (start walk : Walk) (fold fold' : S) (done : Unit {0}) → walked_by start ≡ start_walk → FoldsLogs follows logged logs (walked_by start) fold (walked_by walk) fold' (Ok done) → FoldsListed follows logs logged fold fold' (Ok walk)
listed_folded follows logs logged start walk fold fold' done is f = (f.0, subst (λ (w : Walked). WalksLogs logged 0 logs (Ok (w, [])) (Ok (walked_by walk, f.0))) is (f.1 []), f.2)

pub listed_broken : {S : Type 0} (follows : S → NewerRecord → S → Type 0) (logs : List (Bor (List ℕ))) (logged : List ℤ) (start walk : Walk) (fold fold' : S) (fault : HistoryFault) → walked_by start ≡ start_walk → FoldsLogs follows logged logs (walked_by start) fold (walked_by walk) fold' (Err fault) → FoldsListed follows logs logged fold fold' (Err fault)
listed_broken follows logs logged start walk fold fold' history_faults.NoMemory is f = tt
listed_broken follows logs logged start walk fold fold' fault is f = subst (λ (w : Walked). WalksLogs logged 0 logs (Ok (w, [])) (Err fault)) is (f [])

pub given_folded : {S : Type 0} (follows : S → NewerRecord → S → Type 0) (range : Range) (held logged : List ℤ) (logs : List (Bor (List ℕ))) (walk : Walk) (old new : S) (notice : String Global) → FoldsListed follows logs logged old new (Ok walk) → Notices range held logged (walked_by walk) (Ok notice)
    → FoldsGiven follows range held logged logs old (Ok (record { fold = new; notice = notice }))
given_folded follows range held logged logs walk old new notice f n = (f.0, record { walked = walked_by walk; are_walked = f.1; answered = n.0; noticed = n.1 }, f.2)

pub given_broken : {S : Type 0} (follows : S → NewerRecord → S → Type 0) (range : Range) (held logged : List ℤ) (logs : List (Bor (List ℕ))) (old new : S) (fault : HistoryFault) → FoldsListed follows logs logged old new (Err fault) → FoldsGiven follows range held logged logs old (Err fault)
given_broken follows range held logged logs old new history_faults.NoMemory f = tt
given_broken follows range held logged logs old new fault f = inl f

pub given_rejected : {S : Type 0} (follows : S → NewerRecord → S → Type 0) (range : Range) (held logged : List ℤ) (logs : List (Bor (List ℕ))) (walk : Walk) (old new : S) (fault : HistoryFault) → FoldsListed follows logs logged old new (Ok walk) → Notices range held logged (walked_by walk) (Err fault) → FoldsGiven follows range held logged logs old (Err fault)
given_rejected follows range held logged logs walk old new history_faults.NoMemory f n = tt
given_rejected follows range held logged logs walk old new fault f n = inr (record { walked = walked_by walk; records = f.0; are_walked = f.1; beyond = n })

-- ---- the files of a directory

given_in : (snapshots names : Option (List (List ℕ))) (log_bytes : List ℕ → Option (List ℕ)) (held logged : List ℤ) (given : List (Bor (List ℕ))) (loaded : List (List ℕ)) → AreIn snapshot_zxid snapshots held → AreIn log_zxid names logged → 0 < length held + length logged → AreGiven log_bytes logged loaded → map bytes_of given ≡ loaded
    → AreLogsIn snapshots names log_bytes held logged given
given_in snapshots names log_bytes held logged given loaded are_snapshots are_logs some are_given same = record { are_snapshots = are_snapshots; are_logs = are_logs; some = some; are_given = subst (AreGiven log_bytes logged) (sym same) are_given }

pub directory_folded : {S : Type 0} (follows : S → NewerRecord → S → Type 0) (range : Range) (snapshots names : Option (List (List ℕ))) (log_bytes : List ℕ → Option (List ℕ)) (held logged : List ℤ) (given : List (Bor (List ℕ))) (loaded : List (List ℕ)) (fold : S) (result : Result (FoldedDirectory S) HistoryFault) → AreIn snapshot_zxid snapshots held → AreIn log_zxid names logged → 0 < length held + length logged → AreGiven log_bytes logged loaded → map bytes_of given ≡ loaded
    → FoldsGiven follows range held logged given fold result → FoldsDirectory follows range snapshots names log_bytes fold result
directory_folded follows range snapshots names log_bytes held logged given loaded fold (Ok folded) are_snapshots are_logs some are_given same f =
    (f.0, record { held = held; logged = logged; given = given; are_logs = given_in snapshots names log_bytes held logged given loaded are_snapshots are_logs some are_given same; answers = f.1 }, f.2)
directory_folded follows range snapshots names log_bytes held logged given loaded fold (Err history_faults.NoMemory) are_snapshots are_logs some are_given same f = inl tt
directory_folded follows range snapshots names log_bytes held logged given loaded fold (Err fault) are_snapshots are_logs some are_given same f =
    inr (inr (inr (record { held = held; logged = logged; given = given; are_logs = given_in snapshots names log_bytes held logged given loaded are_snapshots are_logs some are_given same; rejected = f })))

pub snapshots_unlisted : (range : Range) (snapshots logs : Option (List (List ℕ))) (log_bytes : List ℕ → Option (List ℕ)) (fault : HistoryFault) → AreUnlisted snapshots fault → HaveNoAnswer range snapshots logs log_bytes fault
snapshots_unlisted range snapshots logs log_bytes fault unlisted = inr (inl (snapshot_names snapshots logs fault unlisted))

pub logs_unlisted : (range : Range) (snapshots logs : Option (List (List ℕ))) (log_bytes : List ℕ → Option (List ℕ)) (fault : HistoryFault) → AreUnlisted logs fault → HaveNoAnswer range snapshots logs log_bytes fault
logs_unlisted range snapshots logs log_bytes fault unlisted = inr (inl (names_of_logs snapshots logs fault unlisted))

pub none_held : (range : Range) (snapshots logs : Option (List (List ℕ))) (log_bytes : List ℕ → Option (List ℕ)) → HoldsNone snapshots logs → HaveNoAnswer range snapshots logs log_bytes history_faults.Empty
none_held range snapshots logs log_bytes none = inr (inr (inl (none, refl)))
