use Rattle.std.proofs.Common.{◌≡◌, ◌+◌, drop}
use Rattle.zab_broadcast.specs.Syncs.{position_of}
use Rattle.zab_broadcast.proofs.syncs.AskedSyncs.position_of.Given as goal

abbrev pub invariant-loop-place : goal.invariant-loop-place
invariant-loop-place l = l.place + position_of l.tag (drop l.place l.one-items) ≡ position_of l.tag l.one-items
