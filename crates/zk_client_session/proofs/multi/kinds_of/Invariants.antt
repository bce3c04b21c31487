use Rattle.std.proofs.Common.{◌≡◌, map, take}
use Rattle.zk_client_session.specs.Links.{kind_of}
use Rattle.zk_client_session.proofs.multi.kinds_of.Given as goal

abbrev pub invariant-loop-part : goal.invariant-loop-part
invariant-loop-part l = l.kinds.items ≡ map kind_of (take l.part-index l.part-items)
