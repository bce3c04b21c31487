use Rattle.std.proofs.Common.{◌≡◌, drop}
use Rattle.zab_broadcast.specs.Syncs.{is_asked}
use Rattle.zab_broadcast.proofs.syncs.AskedSyncs.has.Given as goal

abbrev pub invariant-loop-one : goal.invariant-loop-one
invariant-loop-one l = is_asked l.tag (drop l.one-index l.one-items) ≡ is_asked l.tag l.one-items
