-- The remaining records lead from those followed so far to all.
use Rattle.std.proofs.Common.{◌≡◌, drop, map}
use Rattle.zk_tree_changes.specs.Changes.{followed_all}
use Rattle.zk_tree_changes.proofs.logged.follow_entries.Given as goal

abbrev pub invariant-loop-entry : goal.invariant-loop-entry
invariant-loop-entry l = followed_all l.changes (map (λ entry. entry.newer) (drop l.entry-index l.entries)) ≡ followed_all l.fn.changes (map (λ entry. entry.newer) l.fn.entries)
