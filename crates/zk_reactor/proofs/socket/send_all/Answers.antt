use Rattle.zk_reactor.proofs.SocketLaws.{both_writes}
use Rattle.zk_reactor.proofs.socket.send_all.Goals as goal

pub writes-preserved : goal.writes-preserved
writes-preserved g c =
    both_writes (g.W.Write.contents c.args.socket.now) (g.W.Write.contents c.writes.socket) (g.W.Write.contents c.send.new.socket)
    c.args.connection.now c.writes.connection c.send.new.connection c.writes.invariant c.send.ensures

pub returns-then-not-send : goal.returns-then-not-send
returns-then-not-send g c =
    both_writes (g.W.Write.contents c.args.socket.now) (g.W.Write.contents c.writes.socket) (g.W.Write.contents c.send.new.socket)
    c.args.connection.now c.writes.connection c.send.new.connection c.writes.invariant c.send.ensures
