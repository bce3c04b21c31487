use Rattle.std.proofs.Common.{◌≡◌, drop}
use Rattle.zk_state_snapshot.specs.Lists.{same_list}
use Rattle.zk_state_snapshot.proofs.lists.is_same_list.Given as goal

abbrev pub invariant-loop-acl : goal.invariant-loop-acl
invariant-loop-acl l = same_list (drop l.acl-index l.fn.one) l.others ≡ same_list l.fn.one l.fn.other
