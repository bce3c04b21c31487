-- The numbers so far, and those to come.
use Rattle.std.proofs.Common.{◌≡◌, ◌++◌, drop}
use Rattle.zk_client_port.specs.Ports.{numbers_over}
use Rattle.zk_client_port.proofs.client_port.numbers_over.Given as goal

abbrev pub invariant-loop-connection : goal.invariant-loop-connection
invariant-loop-connection l = l.over.items ++ numbers_over (drop l.connection-index l.fn.connections) ≡ numbers_over l.fn.connections
