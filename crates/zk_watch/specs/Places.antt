-- Positions in a sorted list of watches: of a session's watch at a path, and of all watches at a
-- path.
use Rattle.std.specs.Prelude.{◌≡◌, ℕ, List, Bool, true, false, insert, slice_set, slice_index_or, Result, Ok, Err}
use Rattle.std.specs.declared.cmp.Ordering.{Ordering}
use Rattle.std.specs.List.Sorted.{IsPartitionPoint}
use Rattle.std.specs.Ordering.{is_lt, is_le, nat_cmp, ordering_then}
use Rattle.zk_table.specs.States.{path_cmp}
use Rattle.zk_watch.specs.declared.watch.Watch.{Watch}
use Rattle.zk_watch.specs.declared.watch.WatchKind.{WatchKind}
use Rattle.zk_watch.specs.Watching.{first_watch, joined, with_watch, waits_at}

-- by path, then by session
abbrev pub place_cmp : List ℕ → ℕ → List ℕ → ℕ → Ordering
place_cmp path session path' session' = ordering_then (path_cmp path path') (nat_cmp session session')

-- ---- a session's watch at a path, or the position where it would be inserted

-- the watch at the position gains what is set, or what is set is inserted there
abbrev pub IsPlace : ℕ → List ℕ → List Watch → Result ℕ ℕ → Type 0
IsPlace session path ws (Ok at) = (kind : WatchKind) (d : Watch) → with_watch session kind path ws ≡ slice_set ws at (joined (first_watch session kind path) (slice_index_or ws at d))
IsPlace session path ws (Err at) = ((kind : WatchKind) → with_watch session kind path ws ≡ insert ws at (first_watch session kind path)) × (waits_at session path ws ≡ false)

-- ---- the watches at a path come after those with lesser paths, and before those with greater ones

abbrev pub is_below : List ℕ → Watch → Bool
is_below path w = is_lt (path_cmp w.path path)

abbrev pub is_upto : List ℕ → Watch → Bool
is_upto path w = is_le (path_cmp w.path path)

-- the first `n` pass the test, and none after them
abbrev pub IsPartedBy : (Watch → Bool) → List Watch → ℕ → Type 0
IsPartedBy test ws count = IsPartitionPoint (λ w. test w ≡ true) (λ w. test w ≡ false) ws count
