use Rattle.std.proofs.Common.{pos, sym}
use Rattle.std.specs.FinMap as finite
use Rattle.zk_replay.specs.Bases.{sessions_of}
use Rattle.zk_replay.proofs.Turning.{held, all_held}
use Rattle.zk_replay.proofs.draft.sessions_of.Goals as goal

pub loop-lease-preserved : goal.loop-lease-preserved
loop-lease-preserved c =
    held c.loop-lease.sessions c.open_lease.new.sessions (sessions_of finite.empty c.args.leases.now) c.args.leases.now c.loop-lease.lease-index (record { session = pos 0; timeout = pos 0 }) c.loop-lease-test.true c.in_ok-open_lease.ensures c.loop-lease.invariant

pub returns : goal.returns
returns c =
    sym (all_held c.loop-lease.sessions (sessions_of finite.empty c.args.leases.now) c.args.leases.now c.loop-lease.lease-index c.loop-lease-test.false c.loop-lease.invariant)
