use Rattle.std.proofs.Common.{◌≡◌, ◌++◌, drop}
use Rattle.zab_broadcast.specs.Syncs.{left_asked}
use Rattle.zab_broadcast.proofs.syncs.AskedSyncs.left.Given as goal

abbrev pub invariant-loop-one : goal.invariant-loop-one
invariant-loop-one l = l.syncs.items ++ left_asked l.delivered (drop l.one-index l.one-items) ≡ left_asked l.delivered l.one-items
