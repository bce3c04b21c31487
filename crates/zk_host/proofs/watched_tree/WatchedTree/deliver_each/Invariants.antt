use Rattle.std.proofs.Common.{◌≡◌, ◌≤◌, ◌-◌, drop, length}
use Rattle.zk_host.specs.WatchedTrees.{after_entries}
use Rattle.zk_host.proofs.watched_tree.WatchedTree.deliver_each.Given as goal

abbrev pub invariant-loop-done : goal.invariant-loop-done
invariant-loop-done l = record {
  within : l.done ≤ length l.entries;
  delivered : after_entries l.self (drop l.done l.entries) ≡ after_entries l.fn.self l.entries;
}

abbrev pub decreases-loop-done : goal.decreases-loop-done
decreases-loop-done l = length l.entries - l.done
