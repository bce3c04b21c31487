use Rattle.std.proofs.Common.{◌≡◌, drop}
use Rattle.zk_host.specs.WatchedTrees.{after_entries}
use Rattle.zk_host.proofs.watched_tree.WatchedTree.deliver_some.Given as goal

abbrev pub invariant-loop-index : goal.invariant-loop-index
invariant-loop-index l = after_entries l.self (drop l.index l.entries) ≡ after_entries l.fn.self l.entries
