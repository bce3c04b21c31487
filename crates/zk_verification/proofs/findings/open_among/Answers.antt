use Rattle.zk_verification.proofs.Found.{opened}
use Rattle.zk_verification.proofs.findings.open_among.Goals as goal

pub loop-joint-preserved : goal.loop-joint-preserved
loop-joint-preserved c =
    opened c.args.states.now c.args.joints.now c.loop-joint.joint-index _ c.loop-joint.kept.items c.push_open.new.kept.items c.loop-joint-test.true c.loop-joint.invariant c.in_ok-push_open.ensures
