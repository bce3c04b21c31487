use Rattle.zk_connections.proofs.Conversing.{whole}
use Rattle.zk_connections.specs.Connections.{new_connection}
use Rattle.zk_connections.proofs.laws.nothing_is_left_out.Goals as goal

pub returns : goal.returns
returns c = λ number later life. whole (new_connection number) later life
