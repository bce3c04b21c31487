-- The first entry of logs.
use Rattle.std.proofs.Common.{◌≡◌, ℕ, ◌+◌, ◌<◌, ◌≤◌, List, length, drop, get_or, Option, Some, None, refl, sym, subst}
use Rattle.std.proofs.lemmas.List.{drop_more}
use Rattle.std.specs.Borrow.{Bor}
use Rattle.std.specs.List.{slice_get}
use Rattle.zk_replay.proofs.Turning.{at_end}
use Rattle.zk_directory.specs.LogFiles.{IsLogFile}
use Rattle.zk_directory.specs.declared.file.FileEntry.{FileEntry}
use Rattle.zk_directory.specs.declared.file.LogFile.{LogFile}
use Rattle.zk_directory_state.proofs.TakenFiles.{no_bytes}
use Rattle.zk_directory_state.specs.Evidence.{IsStart, IsStartBy}
use Rattle.zk_directory_state.specs.declared.evidence.Start.{Start}

-- the log at i has one
pub found_start : (logs : List (Bor (List ℕ))) (i log : ℕ) (file : LogFile) (entry : FileEntry) → i < length logs → IsLogFile (get_or logs i no_bytes).now file → slice_get file.entries.items 0 ≡ Some entry
    → IsStart log (drop i logs) (Some (record { log = log; zxid = entry.newer.txn.zxid }))
found_start logs i log file entry lt of_bytes one =
    let start : Option Start = Some (record { log = log; zxid = entry.newer.txn.zxid }) in
    subst (λ l. IsStart log l start) (sym (drop_more logs i no_bytes lt)) (file, of_bytes, subst (λ o. IsStartBy log o start (IsStart (log + 1) (drop (i + 1) logs) start)) (sym one) refl)

-- the log at i has none
pub no_start : (logs : List (Bor (List ℕ))) (i log : ℕ) (file : LogFile) (start : Option Start) → i < length logs → IsLogFile (get_or logs i no_bytes).now file → slice_get file.entries.items 0 ≡ None → IsStart (log + 1) (drop (i + 1) logs) start → IsStart log (drop i logs) start
no_start logs i log file start lt of_bytes none rest =
    subst (λ l. IsStart log l start) (sym (drop_more logs i no_bytes lt)) (file, of_bytes, subst (λ o. IsStartBy log o start (IsStart (log + 1) (drop (i + 1) logs) start)) (sym none) rest)

pub none_start : (logs : List (Bor (List ℕ))) (i log : ℕ) → length logs ≤ i → IsStart log (drop i logs) None
none_start logs i log le = subst (λ l. IsStart log l None) (sym (at_end logs i le)) refl
