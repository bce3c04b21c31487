use Rattle.std.proofs.Common.{◌≡◌, take}
use Rattle.zab_broadcast.specs.Syncs.{told}
use Rattle.zab_broadcast.proofs.syncs.AskedSyncs.told.Given as goal

abbrev pub invariant-loop-one : goal.invariant-loop-one
invariant-loop-one l = l.syncs.items ≡ told l.tag l.length (take l.one-index l.one-items)
