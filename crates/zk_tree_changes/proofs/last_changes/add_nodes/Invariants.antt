-- The remaining nodes lead from the owners so far to those after all.
use Rattle.std.proofs.Common.{◌≡◌, drop, map}
use Rattle.zk_tree_changes.specs.Changes.{with_nodes}
use Rattle.zk_tree_changes.proofs.last_changes.add_nodes.Given as goal

abbrev pub invariant-loop-entry : goal.invariant-loop-entry
invariant-loop-entry l = with_nodes l.owners (map (λ entry. (entry.path.now, entry.node.now.owner)) (drop l.entry-index l.fn.entries)) ≡ with_nodes l.fn.owners (map (λ entry. (entry.path.now, entry.node.now.owner)) l.fn.entries)
