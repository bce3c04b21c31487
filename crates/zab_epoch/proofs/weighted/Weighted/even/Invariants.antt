use Rattle.std.proofs.Common.{◌≡◌, replicate}
use Rattle.zab_epoch.proofs.weighted.Weighted.even.Given as goal

abbrev pub invariant-loop : goal.invariant-loop
invariant-loop l = l.weights.items ≡ replicate l.counter 1
