use Rattle.std.proofs.Common.{arith}
use Rattle.std.proofs.lemmas.Grind.{common_steps}
use Rattle.zk_hub.proofs.Requests.{set_is}
use Rattle.zk_hub.proofs.hub.complete_in.Goals as goal

pub returns-then-awaits-clause-completed : goal.returns-then-awaits-clause-completed
returns-then-awaits-clause-completed g c = grind (arith, common_steps, set_is)
