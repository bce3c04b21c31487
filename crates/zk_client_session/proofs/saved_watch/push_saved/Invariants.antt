use Rattle.std.proofs.Common.{◌≡◌, ◌++◌, map}
use Rattle.zk_client_session.specs.SavedWatches.{saved}
use Rattle.zk_client_session.proofs.saved_watch.push_saved.Given as goal

abbrev pub invariant-loop-path : goal.invariant-loop-path
invariant-loop-path l = l.watches.items ≡ l.fn.watches.items ++ map (saved l.kind) l.yielded
