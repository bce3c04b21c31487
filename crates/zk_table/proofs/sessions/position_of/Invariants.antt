use Rattle.std.proofs.Common.{◌≡◌, drop}
use Rattle.std.specs.Ordering.{nat_cmp}
use Rattle.zk_table.specs.Places.{position_of}
use Rattle.zk_table.proofs.Sorted.{later_by}
use Rattle.zk_table.proofs.sessions.position_of.Given as goal

abbrev pub invariant-loop-known : goal.invariant-loop-known
invariant-loop-known l = (l.at ≡ l.known-index) × (position_of nat_cmp l.number l.entries ≡ later_by l.at (position_of nat_cmp l.number (drop l.at l.entries)))
