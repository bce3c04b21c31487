use Rattle.std.proofs.Common.{arith}
use Rattle.std.proofs.lemmas.Grind.{common_steps}
use Rattle.zk_client_port.proofs.Each.{set_is}
use Rattle.zk_client_port.proofs.outputs.write_event_to.Goals as goal

pub returns-then-number : goal.returns-then-number
returns-then-number c = grind (arith, common_steps, set_is)
