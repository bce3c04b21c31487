use Rattle.std.proofs.Common.{arith}
use Rattle.zk_state_snapshot.proofs.Tables.{long_is_not_open}
use Rattle.zk_state_snapshot.proofs.lists.is_open.Goals as goal

pub returns-in_default-2 : goal.returns-in_default-2
returns-in_default-2 c = long_is_not_open c.args.acl.now (omega (arith, c.in_default.len_at_least))
