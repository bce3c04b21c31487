use Rattle.zk_hub.proofs.Order.{others_are_left}
use Rattle.zk_hub.proofs.laws.others_stay.Goals as goal

pub returns : goal.returns
returns g c = others_are_left
