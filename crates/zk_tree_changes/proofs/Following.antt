-- The records of logs, followed in order.
use Rattle.std.proofs.Common.{◌≡◌, ◌<◌, ◌≤◌, ◌+◌, ℕ, List, [], ◌∷◌, ◌++◌, length, get_or, drop, refl, sym, ap, ◌∙◌, subst}
use Rattle.std.proofs.lemmas.List.{drop_all, drop_more}
use Rattle.std.specs.Borrow.{Bor}
use Rattle.zk_tree_changes.specs.DifferenceReports.{FollowsLogs, records_in, records_of}
use Rattle.zk_tree_changes.specs.Changes.{Track, followed, followed_all}
use Rattle.zk_directory.specs.LogFiles.{IsLogFile}
use Rattle.zk_directory.specs.declared.file.LogFile.{LogFile}
use Rattle.zk_newer_records.specs.declared.newer_record.NewerRecord.{NewerRecord}

followed_more : (track : Track) (front more : List NewerRecord) → followed_all track (front ++ more) ≡ followed_all (followed_all track front) more
followed_more track [] more = refl
followed_more track (newer ∷ front) more = followed_more (followed track newer) front more

next_file : (bytes : Bor (List ℕ)) (logs : List (Bor (List ℕ))) (file : LogFile) (old middle new : Track) → IsLogFile bytes.now file → middle ≡ followed_all old (records_of file) → FollowsLogs logs middle new → FollowsLogs (bytes ∷ logs) old new
next_file bytes logs file old middle new is first (files, are, e) = (file ∷ files, (is, are), e ∙ ap (λ t. followed_all t (records_in files)) first ∙ sym (followed_more old (records_of file) (records_in files)))

pub next_log : (logs : List (Bor (List ℕ))) (i : ℕ) (d : Bor (List ℕ)) (file : LogFile) (old middle new : Track) → i < length logs → (let bytes : Bor (List ℕ) = get_or logs i d in IsLogFile bytes.now file) → middle ≡ followed_all old (records_of file) → FollowsLogs (drop (i + 1) logs) middle new → FollowsLogs (drop i logs) old new
next_log logs i d file old middle new lt is first more =
    subst (λ l. FollowsLogs l old new) (sym (drop_more logs i d lt)) (next_file (get_or logs i d) (drop (i + 1) logs) file old middle new is first more)

pub all_logs : (logs : List (Bor (List ℕ))) (i : ℕ) (track : Track) → length logs ≤ i → FollowsLogs (drop i logs) track track
all_logs logs i track le = subst (λ l. FollowsLogs l track track) (sym (drop_all i logs le)) ([], tt, refl)
