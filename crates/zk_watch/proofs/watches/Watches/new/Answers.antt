use Rattle.std.proofs.Common.{sym, subst}
use Rattle.zk_watch.specs.Watching.{IsWatchList}
use Rattle.zk_watch.proofs.Kept.{none_kept}
use Rattle.zk_watch.proofs.watches.Watches.new.Goals as goal

pub invariant_of-result : goal.invariant_of-result
invariant_of-result c = subst IsWatchList (sym c.new.ensures.items) none_kept
