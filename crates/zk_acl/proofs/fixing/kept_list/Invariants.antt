use Rattle.std.proofs.Common.{◌≡◌, take, flat_map}
use Rattle.zk_acl.specs.Access.{entries_for, each_once}
use Rattle.zk_acl.proofs.fixing.kept_list.Given as goal

abbrev pub invariant-loop-entry : goal.invariant-loop-entry
invariant-loop-entry l = l.kept.items ≡ each_once (flat_map (entries_for l.auths) (take l.entry-index l.entry-items))
