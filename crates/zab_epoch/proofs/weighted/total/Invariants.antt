use Rattle.std.proofs.Common.{◌≡◌, ◌≤◌, ◌*◌, take}
use Rattle.std.specs.List.{sum}
use Rattle.zab_epoch.proofs.weighted.total.Given as goal

abbrev pub invariant-loop-weight : goal.invariant-loop-weight
invariant-loop-weight l = (l.total ≡ sum (take l.weight-index l.weights)) × (l.total ≤ l.weight-index * 4294967295)
