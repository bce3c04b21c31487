-- The remaining sessions lead from what is known so far to what is known after all.
use Rattle.std.proofs.Common.{◌≡◌, drop}
use Rattle.zk_session_commands.specs.FirstKnown.{leases_in}
use Rattle.zk_session_commands.proofs.base_known.add_leases.Given as goal

abbrev pub invariant-loop-lease : goal.invariant-loop-lease
invariant-loop-lease l = leases_in l.known (drop l.lease-index l.fn.leases) ≡ leases_in l.fn.known l.fn.leases
