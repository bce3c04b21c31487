use Rattle.std.proofs.Common.{◌≡◌, ◌++◌, drop, map, filter}
use Rattle.zk_watch.specs.Watching.{waits_for, told, told_by}
use Rattle.zk_watch.proofs.watches.tell.Given as goal

abbrev pub invariant-loop-watch : goal.invariant-loop-watch
invariant-loop-watch l = l.told.items ++ map (told l.change) (filter (waits_for l.change.kind) (drop l.watch-index l.watch-items)) ≡ l.fn.told.items ++ told_by l.change l.watches
