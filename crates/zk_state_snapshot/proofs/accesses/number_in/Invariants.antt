use Rattle.std.proofs.Common.{◌≡◌, drop}
use Rattle.zk_state_snapshot.specs.Lists.{number_in}
use Rattle.zk_state_snapshot.proofs.accesses.number_in.Given as goal

abbrev pub invariant-loop-access : goal.invariant-loop-access
invariant-loop-access l = number_in (drop l.access-index l.fn.table) l.fn.acl ≡ number_in l.fn.table l.fn.acl
