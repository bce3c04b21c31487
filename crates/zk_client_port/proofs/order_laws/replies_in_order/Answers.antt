use Rattle.zk_client_port.proofs.OrderTurning.{in_order}
use Rattle.zk_client_port.proofs.order_laws.replies_in_order.Goals as goal

pub returns : goal.returns
returns g c = in_order
