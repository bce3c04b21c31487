use Rattle.std.proofs.Common.{◌≡◌, ◌≤◌, ◌*◌, ◌+◌, drop}
use Rattle.zab_epoch.specs.Quorums.{weight_of}
use Rattle.zab_epoch.proofs.weighted.weight_of.Given as goal

abbrev pub invariant-loop-index : goal.invariant-loop-index
invariant-loop-index l = (l.weight + weight_of (drop l.index l.weights) (drop l.index l.marks) ≡ weight_of l.weights l.marks) × (l.weight ≤ l.index * 4294967295)
