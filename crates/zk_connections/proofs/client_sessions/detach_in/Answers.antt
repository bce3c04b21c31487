use Rattle.std.proofs.Common.{arith}
use Rattle.std.proofs.lemmas.Grind.{common_steps}
use Rattle.zk_connections.proofs.Each.{set_is}
use Rattle.zk_connections.proofs.client_sessions.detach_in.Goals as goal

pub returns-then-is_at : goal.returns-then-is_at
returns-then-is_at c = grind (arith, common_steps, set_is)
