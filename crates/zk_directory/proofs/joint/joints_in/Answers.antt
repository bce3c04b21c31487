use Rattle.std.proofs.Common.{map}
use Rattle.zk_directory.proofs.Joints.{all_joints, joints_more}
use Rattle.zk_directory.specs.Chains.{told}
use Rattle.zk_directory.specs.Joints.{joints_from}
use Rattle.zk_directory.proofs.joint.joints_in.Goals as goal

pub loop-entry-preserved : goal.loop-entry-preserved
loop-entry-preserved c =
    let entries = c.args.taken.now in
    let i = c.loop-entry.entry-index in
    joints_more c.args.proved c.loop-entry.before c.after-before.result entries i _ c.loop-entry.joints.items c.push_joint_before.new.joints.items (joints_from c.args.proved c.args.base (map told entries)) c.loop-entry-test.true
    c.loop-entry.invariant c.in_ok-push_joint_before.ensures c.after-before.ensures

pub returns : goal.returns
returns c =
    let entries = c.args.taken.now in
    all_joints c.args.proved c.loop-entry.before entries c.loop-entry.entry-index c.loop-entry.joints.items (joints_from c.args.proved c.args.base (map told entries)) c.loop-entry-test.false c.loop-entry.invariant
