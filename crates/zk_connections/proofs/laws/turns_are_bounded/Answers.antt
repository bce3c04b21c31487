use Rattle.zk_connections.proofs.Turns.{bounded}
use Rattle.zk_connections.proofs.laws.turns_are_bounded.Goals as goal

pub returns : goal.returns
returns c = bounded
