-- Records and logs, one by one, as loops iterate over them.
use Rattle.std.proofs.Common.{◌≡◌, ℕ, ℤ, ◌+◌, ◌<◌, ◌≤◌, List, [], ◌∷◌, length, drop, get_or, Result, Ok, Err, refl, sym, ap, ◌∙◌, subst}
use Rattle.std.proofs.lemmas.List.{drop_more}
use Rattle.std.specs.Borrow.{Bor}
use Rattle.std.specs.Prelude.{OnOk}
use Rattle.zk_directory.specs.LogFiles.{IsLogFile}
use Rattle.zk_directory.specs.declared.file.FileEntry.{FileEntry}
use Rattle.zk_directory.specs.declared.file.LogFile.{LogFile}
use Rattle.zk_mend.specs.Digests.{Owners}
use Rattle.zk_path.specs.declared.memory.NoMemory.{NoMemory}
use Rattle.zk_replay.proofs.Turning.{at_end, next_is}
use Rattle.zk_stored_owners.specs.StoredOwners.{Followed, FollowsLog, FollowsLogs, followed_one, followed_over}

-- ---- records

none_over : (upto : ℤ) (path : List ℕ) (so_far : Followed) → followed_over upto path so_far [] ≡ so_far
unfolding followed_over
none_over upto path so_far = refl

one_over : (upto : ℤ) (path : List ℕ) (so_far : Followed) (entry : FileEntry) (entries : List FileEntry) → followed_over upto path so_far (entry ∷ entries) ≡ followed_over upto path (followed_one upto path so_far entry.newer) entries
unfolding followed_over
one_over upto path so_far entry entries = refl

pub entry_on : (upto : ℤ) (path : List ℕ) (entries : List FileEntry) (i : ℕ) (entry : FileEntry) (old new : Followed) → i < length entries → entry ≡ get_or entries i entry → new ≡ followed_one upto path old entry.newer
    → followed_over upto path new (drop (i + 1) entries) ≡ followed_over upto path old (drop i entries)
entry_on upto path entries i entry old new lt is one =
    ap (λ (f : Followed). followed_over upto path f (drop (i + 1) entries)) one
    ∙ sym (one_over upto path old entry (drop (i + 1) entries))
    ∙ ap (followed_over upto path old) (sym (next_is entries i entry lt is))

pub entries_end : (upto : ℤ) (path : List ℕ) (entries : List FileEntry) (i : ℕ) (so_far : Followed) → length entries ≤ i → followed_over upto path so_far (drop i entries) ≡ so_far
entries_end upto path entries i so_far le = ap (followed_over upto path so_far) (at_end entries i le) ∙ none_over upto path so_far

-- ---- logs

-- a log, unless allocation failed
pub log_followed : (result : Result (Unit {0}) NoMemory) (upto upto' last last' : ℤ) (owners owners' : Owners) (bytes : List ℕ) (entries : List FileEntry) (file : LogFile) → IsLogFile bytes file → entries ≡ file.entries.items → upto' ≡ upto
    → OnOk result ((path : List ℕ) → (let new : Followed = (last', owners' path) in new ≡ followed_over upto' path (last, owners path) entries)) → OnOk result (FollowsLog upto last last' owners owners' bytes)
log_followed (Ok done) upto upto' last last' owners owners' bytes entries file is same same' one = record {
  file = file;
  of_bytes = is;
  is = λ path. one path ∙ ap (followed_over upto' path (last, owners path)) same ∙ ap (λ (u : ℤ). followed_over u path (last, owners path) file.entries.items) same';
}
log_followed (Err failed) upto upto' last last' owners owners' bytes entries file is same same' one = tt

pub log_on : (upto last next last' : ℤ) (owners between owners' : Owners) (logs : List (Bor (List ℕ))) (i : ℕ) (d : Bor (List ℕ)) → i < length logs → FollowsLog upto last next owners between (get_or logs i d).now → FollowsLogs upto next last' between owners' (drop (i + 1) logs)
    → FollowsLogs upto last last' owners owners' (drop i logs)
log_on upto last next last' owners between owners' logs i d lt one rest =
    subst (λ (l : List (Bor (List ℕ))). FollowsLogs upto last last' owners owners' l) (sym (drop_more logs i d lt)) (next, between, one, rest)

pub logs_end : (upto last : ℤ) (owners : Owners) (logs : List (Bor (List ℕ))) (i : ℕ) → length logs ≤ i → FollowsLogs upto last last owners owners (drop i logs)
logs_end upto last owners logs i le = subst (λ (l : List (Bor (List ℕ))). FollowsLogs upto last last owners owners l) (sym (at_end logs i le)) (refl, λ path. refl)
