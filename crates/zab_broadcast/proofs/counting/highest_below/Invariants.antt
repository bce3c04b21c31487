use Rattle.std.proofs.Common.{◌≡◌, drop}
use Rattle.zab_broadcast.specs.Counts.{highest_below}
use Rattle.zab_broadcast.proofs.counting.highest_below.Given as goal

abbrev pub invariant-loop-slot : goal.invariant-loop-slot
invariant-loop-slot l = highest_below l.highest l.count (drop l.slot-index l.has) ≡ highest_below 0 l.count l.has
