-- Snapshots, tried one after another.
use Rattle.std.proofs.Common.{◌≡◌, ◌⊎◌, ℕ, ℤ, ◌+◌, ◌<◌, ◌≤◌, inl, inr, Bor, List, [], ◌∷◌, ◌++◌, length, map, drop, take, get_or, Option, None, Result, Ok, Err, refl, sym, ap, ◌∙◌, subst}
use Rattle.std.proofs.lemmas.List.{drop_more, take_more}
use Rattle.zk_replay.proofs.Turning.{at_end, next_is}
use Rattle.zk_directory_state.proofs.Unreading.{a_log}
use Rattle.zk_directory_state.specs.Attempts.{Leads, LeadsOver, TriesGiven, TriesOver}
use Rattle.zk_directory_state.specs.Histories.{Chooses, ChoosesOf, Follows, Folders, IsLatestAt, IsLatestIn, IsWithoutSnapshot, NextBy, RestoresWithout, TriesNext, latest_in, later_at, with_broken}
use Rattle.zk_directory_state.specs.Logs.{AreGiven, AreUnreadFiles, IsUnreadLog, bytes_of, logs_from}
use Rattle.zk_directory_state.specs.declared.attempt.Attempt.{Attempt}
use Rattle.zk_directory_state.specs.declared.attempt.Attempt.TheVariants as attempts
use Rattle.zk_directory_state.specs.declared.history.Broken.{Broken}
use Rattle.zk_directory_state.specs.declared.history.Early.{Early}
use Rattle.zk_directory_state.specs.declared.history.Next.TheVariants.{Done, More}
use Rattle.zk_directory_state.specs.declared.history.PassedOver.{PassedOver}
use Rattle.zk_directory_state.specs.declared.history.Shown.{Shown}
use Rattle.zk_directory_state.specs.Folders.{IsGiven}
use Rattle.zk_directory_state.specs.Names.{log_name}
use Rattle.zk_directory_state.specs.declared.fault.HistoryFault.{HistoryFault}
use Rattle.zk_directory.specs.LogFiles.{IsLogFile}
use Rattle.zk_directory.specs.declared.file.FileEntry.{FileEntry}
use Rattle.zk_directory.specs.declared.file.LogFile.{LogFile}
use Rattle.zk_directory_state.specs.declared.restored_directory.Restored.{Restored}
use Rattle.zk_snapshot.specs.declared.snapshot.Snapshot.{Snapshot}

-- ---- snapshots

-- the first of the others that serves is the first of all
abbrev pub IsPassedTo : Folders → List ℤ → ℕ → PassedOver → Type 0
IsPassedTo folders zxids i over = (answer : Result Shown HistoryFault) → Chooses folders answer (drop i zxids) over.broken.items over.early → Chooses folders answer zxids [] None

pub none_passed : (folders : Folders) (zxids : List ℤ) (over : PassedOver) → over.broken.items ≡ [] → over.early ≡ None → IsPassedTo folders zxids 0 over
none_passed folders zxids over broken early = λ answer rest.
    subst (λ e. Chooses folders answer zxids [] e) early (subst (λ b. Chooses folders answer zxids b over.early) broken rest)

-- one of them was tried
tried : (folders : Folders) (answer : Result Shown HistoryFault) (zxids : List ℤ) (i : ℕ) (zxid : ℤ) (broken : List Broken) (early : Option Early) (attempt : Result Attempt HistoryFault) → i < length zxids → zxid ≡ get_or zxids i zxid
    → TriesGiven folders.snapshot_bytes folders.log_bytes zxid folders.upto folders.logged attempt → Follows zxid broken early answer (Chooses folders answer (drop (i + 1) zxids)) attempt → Chooses folders answer (drop i zxids) broken early
tried folders answer zxids i zxid broken early attempt lt is tries follows =
    subst (λ l. Chooses folders answer l broken early) (sym (drop_more zxids i zxid lt ∙ ap (λ z. z ∷ drop (i + 1) zxids) (sym is))) (attempt, tries, follows)

follows_done : (zxid : ℤ) (over : PassedOver) (shown : Shown) (next : List Broken → Option Early → Type 0) (attempt : Result Attempt HistoryFault) → NextBy zxid over attempt (Done shown) → Follows zxid over.broken.items over.early (Ok shown) next attempt
follows_done zxid over shown next (Ok (attempts.Serves restored exact)) n = n
follows_done zxid over shown next (Ok (attempts.Passed fault)) n = absurd n
follows_done zxid over shown next (Ok (attempts.Early exact)) n = absurd n
follows_done zxid over shown next (Err fault) n = absurd n

follows_more : (zxid : ℤ) (over new : PassedOver) (answer : Result Shown HistoryFault) (next : List Broken → Option Early → Type 0) (attempt : Result Attempt HistoryFault) → NextBy zxid over attempt (More new) → next new.broken.items new.early → Follows zxid over.broken.items over.early answer next attempt
follows_more zxid over new answer next (Ok (attempts.Serves restored exact)) n rest = absurd n
follows_more zxid over new answer next (Ok (attempts.Passed fault)) n rest = subst (next (with_broken over.broken.items zxid fault)) n.1 (subst (λ b. next b new.early) n.0 rest)
follows_more zxid over new answer next (Ok (attempts.Early exact)) n rest = subst (next over.broken.items) n.1 (subst (λ b. next b new.early) n.0 rest)
follows_more zxid over new answer next (Err fault) n rest = absurd n

pub served : (folders : Folders) (zxids : List ℤ) (i : ℕ) (zxid : ℤ) (over : PassedOver) (shown : Shown) → i < length zxids → zxid ≡ get_or zxids i zxid → IsPassedTo folders zxids i over → TriesNext folders zxid over (Ok (Done shown)) → ChoosesOf folders zxids [] None (Ok shown)
served folders zxids i zxid over shown lt is so_far t =
    so_far (Ok shown) (tried folders (Ok shown) zxids i zxid over.broken.items over.early t.0 lt is t.1 (follows_done zxid over shown (Chooses folders (Ok shown) (drop (i + 1) zxids)) t.0 t.2))

pub passed_on : (folders : Folders) (zxids : List ℤ) (i : ℕ) (zxid : ℤ) (over new : PassedOver) → i < length zxids → zxid ≡ get_or zxids i zxid → IsPassedTo folders zxids i over → TriesNext folders zxid over (Ok (More new)) → IsPassedTo folders zxids (i + 1) new
passed_on folders zxids i zxid over new lt is so_far t = λ answer rest.
    so_far answer (tried folders answer zxids i zxid over.broken.items over.early t.0 lt is t.1 (follows_more zxid over new answer (Chooses folders answer (drop (i + 1) zxids)) t.0 t.2 rest))

failed_by : (folders : Folders) (zxids : List ℤ) (i : ℕ) (zxid : ℤ) (over : PassedOver) (fault : HistoryFault) → i < length zxids → zxid ≡ get_or zxids i zxid → IsPassedTo folders zxids i over
    → (t : AreUnreadFiles folders.snapshot_bytes folders.log_bytes fault ⊎ TriesGiven folders.snapshot_bytes folders.log_bytes zxid folders.upto folders.logged (Err fault)) → ChoosesOf folders zxids [] None (Err fault)
failed_by folders zxids i zxid over fault lt is so_far (inl unread) = inl unread
failed_by folders zxids i zxid over fault lt is so_far (inr tries) = inr (so_far (Err fault) (tried folders (Err fault) zxids i zxid over.broken.items over.early (Err fault) lt is tries refl))

pub failed : (folders : Folders) (zxids : List ℤ) (i : ℕ) (zxid : ℤ) (over : PassedOver) (fault : HistoryFault) → i < length zxids → zxid ≡ get_or zxids i zxid → IsPassedTo folders zxids i over → TriesNext folders zxid over (Err fault) → ChoosesOf folders zxids [] None (Err fault)
failed folders zxids i zxid over fault lt is so_far t = failed_by folders zxids i zxid over fault lt is so_far t

-- no snapshot serves
pub without : (folders : Folders) (zxids : List ℤ) (i : ℕ) (over : PassedOver) (restored : Restored) (shown : Shown) → length zxids ≤ i → IsPassedTo folders zxids i over → RestoresWithout folders over.broken.items over.early (Ok restored)
    → shown.restored ≡ restored → shown.origin ≡ None → shown.broken.items ≡ over.broken.items → ChoosesOf folders zxids [] None (Ok shown)
without folders zxids i over restored shown le so_far r same none broken =
    so_far (Ok shown) (subst (λ l. Chooses folders (Ok shown) l over.broken.items over.early) (sym (at_end zxids i le)) (Ok restored, r, (same, none, broken)))

fails_by : (folders : Folders) (zxids : List ℤ) (i : ℕ) (over : PassedOver) (fault : HistoryFault) → length zxids ≤ i → IsPassedTo folders zxids i over → (r : IsUnreadLog folders.log_bytes fault ⊎ IsWithoutSnapshot folders over.broken.items over.early (Err fault)) → ChoosesOf folders zxids [] None (Err fault)
fails_by folders zxids i over fault le so_far (inl unread) = inl (a_log folders.snapshot_bytes folders.log_bytes fault unread)
fails_by folders zxids i over fault le so_far (inr r) = inr (so_far (Err fault) (subst (λ l. Chooses folders (Err fault) l over.broken.items over.early) (sym (at_end zxids i le)) (Err fault, r, refl)))

pub fails_without : (folders : Folders) (zxids : List ℤ) (i : ℕ) (over : PassedOver) (fault : HistoryFault) → length zxids ≤ i → IsPassedTo folders zxids i over → RestoresWithout folders over.broken.items over.early (Err fault) → ChoosesOf folders zxids [] None (Err fault)
fails_without folders zxids i over fault le so_far r = fails_by folders zxids i over fault le so_far r

-- ---- logs

given_more : (bytes_in : List ℕ → Option (List ℕ)) (zxids : List ℤ) (all : List (List ℕ)) (zxid : ℤ) (bytes : List ℕ) → AreGiven bytes_in zxids all → IsGiven (bytes_in (log_name zxid)) bytes → AreGiven bytes_in (zxids ++ zxid ∷ []) (all ++ bytes ∷ [])
given_more bytes_in [] [] zxid bytes are one = (one, tt)
given_more bytes_in [] (other ∷ all) zxid bytes are one = absurd are
given_more bytes_in (other ∷ zxids) [] zxid bytes are one = absurd are
given_more bytes_in (other ∷ zxids) (more ∷ all) zxid bytes are one = (are.0, given_more bytes_in zxids all zxid bytes are.1 one)

pub given_on : (bytes_in : List ℕ → Option (List ℕ)) (zxids : List ℤ) (i : ℕ) (old new : List (List ℕ)) (zxid : ℤ) (bytes : List ℕ) → i < length zxids → AreGiven bytes_in (take i zxids) old → IsGiven (bytes_in (log_name zxid)) bytes → zxid ≡ get_or zxids i zxid → new ≡ old ++ bytes ∷ [] → AreGiven bytes_in (take (i + 1) zxids) new
given_on bytes_in zxids i old new zxid bytes lt so_far one is e =
    subst (AreGiven bytes_in (take (i + 1) zxids)) (sym e) (subst (λ l. AreGiven bytes_in l (old ++ bytes ∷ [])) (sym (take_more zxids i zxid lt)) (given_more bytes_in (take i zxids) old (get_or zxids i zxid) bytes so_far (subst (λ z. IsGiven (bytes_in (log_name z)) bytes) is one)))

-- ---- times

pub later_on : (bytes_in : List ℕ → Option (List ℕ)) (time : ℤ) (logged : List ℤ) (i : ℕ) (d old new latest : ℤ) → i < length logged → IsLatestIn bytes_in (get_or logged i d) time old new → IsLatestAt bytes_in time new (drop (i + 1) logged) latest → IsLatestAt bytes_in time old (drop i logged) latest
later_on bytes_in time logged i d old new latest lt one rest = subst (λ l. IsLatestAt bytes_in time old l latest) (sym (drop_more logged i d lt)) (new, one, rest)

pub all_times : (bytes_in : List ℕ → Option (List ℕ)) (time : ℤ) (logged : List ℤ) (i : ℕ) (latest : ℤ) → length logged ≤ i → IsLatestAt bytes_in time latest (drop i logged) latest
all_times bytes_in time logged i latest le = subst (λ l. IsLatestAt bytes_in time latest l latest) (sym (at_end logged i le)) refl

latest_of : (time zxid : ℤ) (entry : FileEntry) (entries : List FileEntry) → latest_in time zxid (entry ∷ entries) ≡ latest_in time (later_at time entry zxid) entries
unfolding latest_in
latest_of time zxid entry entries = refl

latest_none : (time zxid : ℤ) → latest_in time zxid [] ≡ zxid
unfolding latest_in
latest_none time zxid = refl

pub latest_more : (time zxid : ℤ) (entries : List FileEntry) (i : ℕ) (entry : FileEntry) (old new : ℤ) → i < length entries → entry ≡ get_or entries i entry → latest_in time zxid entries ≡ latest_in time old (drop i entries) → new ≡ later_at time entry old → latest_in time zxid entries ≡ latest_in time new (drop (i + 1) entries)
latest_more time zxid entries i entry old new lt is so_far later =
    so_far
    ∙ ap (latest_in time old) (next_is entries i entry lt is)
    ∙ latest_of time old entry (drop (i + 1) entries)
    ∙ ap (λ z. latest_in time z (drop (i + 1) entries)) (sym later)

pub latest_all : (time zxid : ℤ) (entries : List FileEntry) (i : ℕ) (latest : ℤ) → length entries ≤ i → latest_in time zxid entries ≡ latest_in time latest (drop i entries) → latest ≡ latest_in time zxid entries
latest_all time zxid entries i latest le so_far = sym (so_far ∙ ap (latest_in time latest) (at_end entries i le) ∙ latest_none time latest)

-- ---- a snapshot, over the logs from where its entries begin

leads_by : (log_bytes : List ℕ → Option (List ℕ)) (snapshot : Snapshot) (zxid : ℤ) (upto : Option ℤ) (logged rest : List ℤ) (loaded : List (List ℕ)) (logs : List (Bor (List ℕ))) (answer : Result Attempt HistoryFault) → rest ≡ logs_from zxid logged → AreGiven log_bytes rest loaded → map bytes_of logs ≡ loaded
    → Leads snapshot zxid upto rest logs answer → LeadsOver log_bytes snapshot zxid upto logged answer
leads_by log_bytes snapshot zxid upto logged rest loaded logs answer is given same leads = record {
  logs = logs;
  given = subst (λ (l : List ℤ). AreGiven log_bytes l (map bytes_of logs)) is (subst (AreGiven log_bytes rest) (sym same) given);
  leads = subst (λ (l : List ℤ). Leads snapshot zxid upto l logs answer) is leads;
}

pub leads_over : (log_bytes : List ℕ → Option (List ℕ)) (snapshot : Snapshot) (zxid zxid' : ℤ) (upto : Option ℤ) (logged rest : List ℤ) (loaded : List (List ℕ)) (logs : List (Bor (List ℕ))) (answer : Result Attempt HistoryFault) → zxid' ≡ zxid → rest ≡ logs_from zxid' logged → AreGiven log_bytes rest loaded
    → map bytes_of logs ≡ loaded → Leads snapshot zxid' upto rest logs answer → TriesOver log_bytes snapshot zxid upto logged answer
leads_over log_bytes snapshot zxid zxid' upto logged rest loaded logs (Ok attempt) same_zxid is given same leads =
    leads_by log_bytes snapshot zxid upto logged rest loaded logs (Ok attempt) (is ∙ ap (λ (z : ℤ). logs_from z logged) same_zxid) given same (subst (λ (z : ℤ). Leads snapshot z upto rest logs (Ok attempt)) same_zxid leads)
leads_over log_bytes snapshot zxid zxid' upto logged rest loaded logs (Err fault) same_zxid is given same leads =
    inr (leads_by log_bytes snapshot zxid upto logged rest loaded logs (Err fault) (is ∙ ap (λ (z : ℤ). logs_from z logged) same_zxid) given same (subst (λ (z : ℤ). Leads snapshot z upto rest logs (Err fault)) same_zxid leads))

-- ---- the greatest zxid of a log

pub latest_of_log : (bytes_in : List ℕ → Option (List ℕ)) (log log' time time' zxid zxid' latest latest' : ℤ) (bytes bytes' : List ℕ) (file : LogFile) (entries : List FileEntry) → log' ≡ log → time' ≡ time → zxid' ≡ zxid → latest ≡ latest'
    → IsGiven (bytes_in (log_name log')) bytes → bytes' ≡ bytes → IsLogFile bytes' file → entries ≡ file.entries.items → latest' ≡ latest_in time' zxid' entries → IsLatestIn bytes_in log time zxid latest
latest_of_log bytes_in log log' time time' zxid zxid' latest latest' bytes bytes' file entries l t z n given b of_bytes e is = record {
  bytes = bytes;
  file = file;
  given = subst (λ (x : ℤ). IsGiven (bytes_in (log_name x)) bytes) l given;
  of_bytes = subst (λ (x : List ℕ). IsLogFile x file) b of_bytes;
  is = n ∙ is ∙ ap (λ (x : ℤ). latest_in x zxid' entries) t ∙ ap (λ (x : ℤ). latest_in time x entries) z ∙ ap (latest_in time zxid) e;
}

pub later_log : (bytes_in : List ℕ → Option (List ℕ)) (time : ℤ) (logged : List ℤ) (i : ℕ) (log old new same latest : ℤ) → i < length logged → log ≡ get_or logged i log → same ≡ new → IsLatestIn bytes_in log time old new → IsLatestAt bytes_in time same (drop (i + 1) logged) latest
    → IsLatestAt bytes_in time old (drop i logged) latest
later_log bytes_in time logged i log old new same latest lt is again one rest =
    later_on bytes_in time logged i log old new latest lt (subst (λ (x : ℤ). IsLatestIn bytes_in x time old new) is one) (subst (λ (x : ℤ). IsLatestAt bytes_in time x (drop (i + 1) logged) latest) again rest)
