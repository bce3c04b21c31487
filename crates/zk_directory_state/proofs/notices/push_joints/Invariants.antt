-- The lines so far were appended.
use Rattle.std.proofs.Common.{◌≡◌, ◌++◌, take}
use Rattle.std.specs.List.{flat_map}
use Rattle.std.specs.String.{string_bytes}
use Rattle.zk_directory_state.specs.Notices.{line_of}
use Rattle.zk_directory_state.proofs.notices.push_joints.Given as goal

abbrev pub invariant-loop-joint : goal.invariant-loop-joint
invariant-loop-joint l = string_bytes l.text ≡ string_bytes l.fn.text ++ flat_map line_of (take l.joint-index l.joints)
