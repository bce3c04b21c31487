use Rattle.std.proofs.Common.{pos, arith}
use Rattle.std.proofs.lemmas.Int.{ints}
use Rattle.zk_connections.proofs.Conversing.{none_falls}
use Rattle.zk_connections.specs.Connections.{new_connection}
use Rattle.zk_connections.proofs.laws.headers_never_fall.Goals as goal

pub returns : goal.returns
returns c = λ number later life. none_falls (new_connection number) later life (pos 0) (omega (arith, ints))
