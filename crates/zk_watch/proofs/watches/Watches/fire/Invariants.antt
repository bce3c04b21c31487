use Rattle.std.proofs.Common.{◌≡◌, ◌++◌, drop, filter}
use Rattle.std.specs.List.Sorted.{IsStrictlySortedBy}
use Rattle.zk_watch.specs.Watching.{watch_cmp, is_live, fired_by, left_after}
use Rattle.zk_watch.proofs.watches.Watches.fire.Given as goal

abbrev pub invariant-loop-change : goal.invariant-loop-change
invariant-loop-change l = record {
  told : l.told.items ++ fired_by (drop l.change-index l.changes) (filter is_live l.left.items) ≡ fired_by l.changes l.self-inside.entries.items;
  left : left_after (drop l.change-index l.changes) (filter is_live l.left.items) ≡ left_after l.changes l.self-inside.entries.items;
  ordered : IsStrictlySortedBy watch_cmp l.left.items;
}
