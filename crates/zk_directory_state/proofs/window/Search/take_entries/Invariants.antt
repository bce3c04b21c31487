use Rattle.std.proofs.Common.{◌≡◌, drop}
use Rattle.zk_directory_state.specs.Windows.{search_entries, searched_by}
use Rattle.zk_directory_state.proofs.window.Search.take_entries.Given as goal

abbrev pub invariant-loop-entry : goal.invariant-loop-entry
invariant-loop-entry l = search_entries (searched_by l.fn.self) l.fn.entries ≡ search_entries (searched_by l.self) (drop l.entry-index l.fn.entries)
