-- The search for the end of a window, entry by entry and file by file.
use Rattle.std.proofs.Common.{◌≡◌, ℕ, ℤ, ◌+◌, ◌<◌, ◌≤◌, List, [], ◌∷◌, ◌++◌, length, drop, take, get_or, map, Some, None, Result, Ok, Err, refl, sym, ap, ◌∙◌, subst}
use Rattle.std.proofs.lemmas.List.{take_all}
use Rattle.std.specs.Borrow.{Bor}
use Rattle.std.specs.Prelude.{OnOk}
use Rattle.zk_replay.proofs.Turning.{next_is, at_end}
use Rattle.zk_replay.specs.Bases.{IsDraftOf}
use Rattle.zk_replay.specs.declared.draft.Draft.{Draft}
use Rattle.zk_directory.specs.Chains.{history_of, told}
use Rattle.zk_directory.specs.declared.chain.Chain.{Chain}
use Rattle.zk_path.specs.declared.memory.NoMemory.{NoMemory}
use Rattle.zk_directory_state.proofs.Wholes.{same_draft}
use Rattle.zk_directory_state.specs.Restorations.{first_draft}
use Rattle.zk_directory.specs.LogFiles.{IsLogFile}
use Rattle.zk_directory.specs.declared.file.FileEntry.{FileEntry}
use Rattle.zk_directory.specs.declared.file.LogFile.{LogFile}
use Rattle.zk_directory_state.proofs.TakenFiles.{no_bytes, taken_more}
use Rattle.zk_directory_state.specs.Directories.{AreLogFiles}
use Rattle.zk_directory_state.specs.Windows.{IsWindowEnd, Searched, SearchesLog, search_entries, search_entry, search_files, start_search}
use Rattle.zk_snapshot.specs.declared.snapshot.Contents.{Contents}

-- ---- entries

no_entry : (s : Searched) → search_entries s [] ≡ s
unfolding search_entries
no_entry s = refl

entry_on : (s : Searched) (entry : FileEntry) (entries : List FileEntry) → search_entries s (entry ∷ entries) ≡ search_entries (search_entry s entry) entries
unfolding search_entries
entry_on s entry entries = refl

pub searches_on : (s new all : Searched) (entries : List FileEntry) (i : ℕ) (entry : FileEntry) → i < length entries → entry ≡ get_or entries i entry → new ≡ search_entry s entry → all ≡ search_entries s (drop i entries) → all ≡ search_entries new (drop (i + 1) entries)
searches_on s new all entries i entry lt is one so_far =
    so_far
    ∙ ap (search_entries s) (next_is entries i entry lt is)
    ∙ entry_on s entry (drop (i + 1) entries)
    ∙ ap (λ t. search_entries t (drop (i + 1) entries)) (sym one)

pub all_searched : (s all : Searched) (entries : List FileEntry) (i : ℕ) → length entries ≤ i → all ≡ search_entries s (drop i entries) → s ≡ all
all_searched s all entries i le so_far = sym (so_far ∙ ap (search_entries s) (at_end entries i le) ∙ no_entry s)

-- a log, unless allocation failed
pub log_searched : (result : Result (Unit {0}) NoMemory) (old new : Searched) (bytes : List ℕ) (entries : List FileEntry) (file : LogFile) → IsLogFile bytes file → entries ≡ file.entries.items → OnOk result (new ≡ search_entries old entries) → OnOk result (SearchesLog old bytes new)
log_searched (Ok done) old new bytes entries file is same one = (file, is, one ∙ ap (search_entries old) same)
log_searched (Err failed) old new bytes entries file is same one = tt

-- no log was searched yet
pub start_is : (contents : Contents) (zxid latest end : ℤ) (chain : Chain) (draft : Draft) → chain.base ≡ Some zxid → chain.upto ≡ None → chain.position ≡ Some zxid → chain.taken.items ≡ [] → IsDraftOf contents draft → end ≡ latest
    → (let searched : Searched = record { history = history_of chain; draft = draft; end = end } in searched ≡ start_search contents zxid latest)
start_is contents zxid latest end chain draft base upto position taken is same =
    ap (λ b. let s : Searched = record { history = record { base = b; upto = chain.upto; position = chain.position; taken = map told chain.taken.items }; draft = draft; end = end } in s) base
    ∙ ap (λ u. let s : Searched = record { history = record { base = Some zxid; upto = u; position = chain.position; taken = map told chain.taken.items }; draft = draft; end = end } in s) upto
    ∙ ap (λ p. let s : Searched = record { history = record { base = Some zxid; upto = None; position = p; taken = map told chain.taken.items }; draft = draft; end = end } in s) position
    ∙ ap (λ l. let s : Searched = record { history = record { base = Some zxid; upto = None; position = Some zxid; taken = map told l }; draft = draft; end = end } in s) taken
    ∙ ap (λ d. let s : Searched = record { history = record { base = Some zxid; upto = None; position = Some zxid; taken = [] }; draft = d; end = end } in s) (same_draft contents draft is)
    ∙ ap (λ e. let s : Searched = record { history = record { base = Some zxid; upto = None; position = Some zxid; taken = [] }; draft = first_draft contents; end = e } in s) same

-- ---- files

no_file : (s : Searched) → search_files s [] ≡ s
unfolding search_files
no_file s = refl

file_on : (s : Searched) (file : LogFile) (files : List LogFile) → search_files s (file ∷ files) ≡ search_files (search_entries s file.entries.items) files
unfolding search_files
file_on s file files = refl

one_more : (s : Searched) (files : List LogFile) (file : LogFile) → search_files s (files ++ file ∷ []) ≡ search_entries (search_files s files) file.entries.items
one_more s [] file = file_on s file [] ∙ no_file (search_entries s file.entries.items) ∙ ap (λ t. search_entries t file.entries.items) (sym (no_file s))
one_more s (first ∷ files) file = file_on s first (files ++ file ∷ []) ∙ one_more (search_entries s first.entries.items) files file ∙ ap (λ t. search_entries t file.entries.items) (sym (file_on s first files))

-- the logs before the place i were searched
pub record AreSearched (start : Searched) (logs : List (Bor (List ℕ))) (i : ℕ) (searched : Searched) : Type 0 where
  pub files : List LogFile
  pub of_logs : AreLogFiles (take i logs) files
  pub is : searched ≡ search_files start files

pub none_searched : (start searched : Searched) (logs : List (Bor (List ℕ))) → searched ≡ start → AreSearched start logs 0 searched
none_searched start searched logs e = record { files = []; of_logs = tt; is = e ∙ sym (no_file start) }

pub next_searched : (start old new : Searched) (logs : List (Bor (List ℕ))) (i : ℕ) → i < length logs → AreSearched start logs i old → SearchesLog old (get_or logs i no_bytes).now new → AreSearched start logs (i + 1) new
next_searched start old new logs i lt so_far log = record {
  files = so_far.files ++ log.0 ∷ [];
  of_logs = taken_more logs i so_far.files log.0 lt so_far.of_logs log.1;
  is = log.2 ∙ ap (λ s. search_entries s log.0.entries.items) so_far.is ∙ sym (one_more start so_far.files log.0);
}

pub ends_at : (contents : Contents) (zxid latest : ℤ) (logs : List (Bor (List ℕ))) (i : ℕ) (searched : Searched) → length logs ≤ i → AreSearched (start_search contents zxid latest) logs i searched → IsWindowEnd contents zxid latest logs searched.end
ends_at contents zxid latest logs i searched le so_far = record {
  files = so_far.files;
  of_logs = subst (λ l. AreLogFiles l so_far.files) (take_all i logs le) so_far.of_logs;
  is = ap (λ (s : Searched). s.end) so_far.is;
}
