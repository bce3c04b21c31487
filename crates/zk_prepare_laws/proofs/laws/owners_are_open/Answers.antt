use Rattle.zk_prepare_laws.proofs.Standing.{owners_are_open}
use Rattle.zk_prepare_laws.proofs.laws.owners_are_open.Goals as goal

pub returns : goal.returns
returns c = owners_are_open
