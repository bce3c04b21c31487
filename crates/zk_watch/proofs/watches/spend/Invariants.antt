use Rattle.std.proofs.Common.{◌≡◌, ◌++◌, map, take, drop}
use Rattle.zk_watch.specs.Watching.{spent}
use Rattle.zk_watch.proofs.watches.spend.Given as goal

abbrev pub invariant-loop-watch : goal.invariant-loop-watch
invariant-loop-watch l = l.watch-items ≡ map (spent l.change.kind) (take l.watch-index l.initial.watch-items) ++ drop l.watch-index l.initial.watch-items
