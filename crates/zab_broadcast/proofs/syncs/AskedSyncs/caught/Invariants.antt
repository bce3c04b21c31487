use Rattle.std.proofs.Common.{◌≡◌, ◌++◌, drop}
use Rattle.zab_broadcast.specs.Syncs.{newly_caught}
use Rattle.zab_broadcast.proofs.syncs.AskedSyncs.caught.Given as goal

abbrev pub invariant-loop-one : goal.invariant-loop-one
invariant-loop-one l = l.syncs.items ++ newly_caught l.delivered (drop l.one-index l.one-items) ≡ newly_caught l.delivered l.one-items
