-- The places so far, and those of the other entries.
use Rattle.std.proofs.Common.{◌≡◌, ◌++◌, drop, map}
use Rattle.zk_directory.specs.Chains.{told}
use Rattle.zk_directory.specs.Joints.{joints_from}
use Rattle.zk_directory.proofs.joint.joints_in.Given as goal

abbrev pub invariant-loop-entry : goal.invariant-loop-entry
invariant-loop-entry l = l.joints.items ++ joints_from l.proved l.before (map told (drop l.entry-index l.taken)) ≡ joints_from l.proved l.fn.base (map told l.taken)
