use Rattle.std.proofs.Common.{◌≡◌, take}
use Rattle.zk_watch.proofs.watches.copy_of.Given as goal

abbrev pub invariant-loop-watch : goal.invariant-loop-watch
invariant-loop-watch l = l.copy.items ≡ take l.watch-index l.watch-items
