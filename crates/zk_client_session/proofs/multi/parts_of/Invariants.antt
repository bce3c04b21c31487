use Rattle.std.proofs.Common.{◌≡◌, map}
use Rattle.zk_client_session.specs.Links.{part_of}
use Rattle.zk_client_session.proofs.multi.parts_of.Given as goal

abbrev pub invariant-loop-part : goal.invariant-loop-part
invariant-loop-part l = l.operations.items ≡ map part_of l.yielded
