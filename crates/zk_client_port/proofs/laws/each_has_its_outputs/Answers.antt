use Rattle.zk_client_port.proofs.Owning.{each}
use Rattle.zk_client_port.proofs.laws.each_has_its_outputs.Goals as goal

pub returns : goal.returns
returns c = each
