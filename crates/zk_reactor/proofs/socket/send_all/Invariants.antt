-- What the socket took so far.
use Rattle.zk_reactor.specs.Sockets.{SendsTo}
use Rattle.zk_reactor.proofs.socket.send_all.Given as goal

abbrev pub invariant-writes : goal.invariant-writes
invariant-writes g l = SendsTo (g.W.Write.contents l.fn.socket) (g.W.Write.contents l.socket) l.fn.connection l.connection
