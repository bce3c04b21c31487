use Rattle.zk_client_port.proofs.Ordering.{each_frame_once}
use Rattle.zk_client_port.proofs.laws.each_frame_once.Goals as goal

pub returns : goal.returns
returns g c = each_frame_once
