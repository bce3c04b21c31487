-- The end of a snapshot's window, where the file does not state it: the greatest zxid of its nodes,
-- or of a transaction of the logs that finds its work done.
use Rattle.std.specs.Prelude.{◌≡◌, ℕ, ℤ, Bool, ◌&&◌, int_lt, List, [], ◌∷◌, Some, None, Result, Ok, Err, if◌then◌else◌}
use Rattle.std.specs.Borrow.{Bor}
use Rattle.zk_replay.specs.declared.draft.Draft.{Draft}
use Rattle.zk_directory.specs.Chains.{History, after_turn, history_of, turn_of}
use Rattle.zk_directory.specs.declared.chain.ChainFault.{ChainFault}
use Rattle.zk_directory.specs.declared.chain.Turn.{Turn}
use Rattle.zk_directory.specs.declared.chain.Turn.TheVariants.{Take, Skip, Stop}
use Rattle.zk_directory.specs.LogFiles.{IsLogFile}
use Rattle.zk_directory.specs.declared.file.FileEntry.{FileEntry}
use Rattle.zk_directory.specs.declared.file.LogFile.{LogFile}
use Rattle.zk_replay.specs.Windows.{is_done}
use Rattle.zk_directory_state.specs.Directories.{AreLogFiles}
use Rattle.zk_directory_state.specs.Joins.{told_of}
use Rattle.zk_directory_state.specs.Restorations.{first_draft}
use Rattle.zk_directory_state.specs.States.{replayed_one}
use Rattle.zk_directory_state.specs.declared.window.Search.{Search}
use Rattle.zk_snapshot.specs.declared.snapshot.Contents.{Contents}

-- the logs were searched so far
pub record Searched : Type 0 where
  pub history : History
  -- the snapshot's, with the records replayed
  pub draft : Draft
  pub end : ℤ

-- a transaction that found its work done, if it is later
abbrev pub later_of : ℤ → ℤ → Bool → ℤ
later_of end zxid done = if done && int_lt end zxid then zxid else end

-- an entry that continues the history is replayed, and no other
abbrev pub search_by : Searched → FileEntry → Result Turn ChainFault → Searched
search_by searched entry (Ok Take) =
    record { history = after_turn searched.history (told_of entry) Take; draft = replayed_one searched.draft entry.newer; end = later_of searched.end entry.newer.txn.zxid (is_done searched.draft.nodes entry.newer) }
search_by searched entry (Ok Skip) = searched
search_by searched entry (Ok Stop) = searched
search_by searched entry (Err fault) = searched

abbrev pub search_entry : Searched → FileEntry → Searched
search_entry searched entry = search_by searched entry (turn_of searched.history (told_of entry))

unfoldable pub search_entries : Searched → List FileEntry → Searched
search_entries searched [] = searched
search_entries searched (entry ∷ entries) = search_entries (search_entry searched entry) entries

unfoldable pub search_files : Searched → List LogFile → Searched
search_files searched [] = searched
search_files searched (file ∷ files) = search_files (search_entries searched file.entries.items) files

-- a snapshot of this zxid, and the greatest zxid of its nodes
abbrev pub start_search : Contents → ℤ → ℤ → Searched
start_search contents zxid latest =
    record { history = record { base = Some zxid; upto = None; position = Some zxid; taken = [] }; draft = first_draft contents; end = latest }

pub record IsWindowEnd (contents : Contents) (zxid latest : ℤ) (logs : List (Bor (List ℕ))) (end : ℤ) : Type 0 where
  pub files : List LogFile
  pub of_logs : AreLogFiles logs files
  pub is : end ≡ (search_files (start_search contents zxid latest) files).end

-- ---- calls within

abbrev pub searched_by : Search → Searched
searched_by search = record { history = history_of search.chain; draft = search.draft; end = search.end }

abbrev pub SearchesLog : Searched → List ℕ → Searched → Type 0
SearchesLog old bytes new = (file : LogFile) × IsLogFile bytes file × (new ≡ search_entries old file.entries.items)
