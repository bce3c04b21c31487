use Rattle.std.proofs.Common.{◌≡◌, ◌≤◌, drop, length}
use Rattle.zk_machine.specs.Restoring.{cleared}
use Rattle.zk_tree.specs.Trees.{IsTree}
use Rattle.zk_machine.proofs.restore.clear.Given as goal

abbrev pub invariant-loop-at : goal.invariant-loop-at
invariant-loop-at l = (l.at ≤ length l.notes) × (l.tree ≡ cleared (drop l.at l.notes) l.fn.tree) × IsTree l.fn.tree

abbrev pub decreases-loop-at : goal.decreases-loop-at
decreases-loop-at l = l.at
