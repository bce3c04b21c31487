-- The logs so far were searched.
use Rattle.zk_directory_state.proofs.Searching.{AreSearched}
use Rattle.zk_directory_state.specs.Windows.{searched_by, start_search}
use Rattle.zk_directory_state.proofs.window.window_end.Given as goal

abbrev pub invariant-loop-bytes : goal.invariant-loop-bytes
invariant-loop-bytes l = AreSearched (start_search l.fn.contents l.fn.zxid l.fn.latest) l.fn.logs l.bytes-index (searched_by l.search)
