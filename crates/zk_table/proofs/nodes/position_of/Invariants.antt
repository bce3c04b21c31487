use Rattle.std.proofs.Common.{◌≡◌, drop}
use Rattle.zk_table.specs.Places.{position_of}
use Rattle.zk_table.specs.States.{path_cmp}
use Rattle.zk_table.proofs.Sorted.{later_by}
use Rattle.zk_table.proofs.nodes.position_of.Given as goal

abbrev pub invariant-loop-known : goal.invariant-loop-known
invariant-loop-known l = (l.at ≡ l.known-index) × (position_of path_cmp l.path l.entries ≡ later_by l.at (position_of path_cmp l.path (drop l.at l.entries)))
