use Rattle.std.proofs.Common.{refl}
use Rattle.zk_connections.proofs.Conversing.{converses}
use Rattle.zk_connections.specs.Connections.{new_connection}
use Rattle.zk_connections.proofs.laws.the_session_comes_first.Goals as goal

pub returns : goal.returns
returns c = λ number later life. converses (new_connection number) later life refl
