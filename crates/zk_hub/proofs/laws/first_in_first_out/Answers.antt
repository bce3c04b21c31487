use Rattle.zk_hub.proofs.Order.{first_in_first_out}
use Rattle.zk_hub.proofs.laws.first_in_first_out.Goals as goal

pub returns : goal.returns
returns g c = first_in_first_out
