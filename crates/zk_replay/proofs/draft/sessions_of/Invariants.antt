use Rattle.std.proofs.Common.{◌≡◌, drop}
use Rattle.std.specs.FinMap as finite
use Rattle.zk_replay.specs.Bases.{sessions_of}
use Rattle.zk_replay.proofs.draft.sessions_of.Given as goal

abbrev pub invariant-loop-lease : goal.invariant-loop-lease
invariant-loop-lease l = sessions_of finite.empty l.fn.leases ≡ sessions_of l.sessions (drop l.lease-index l.fn.leases)
