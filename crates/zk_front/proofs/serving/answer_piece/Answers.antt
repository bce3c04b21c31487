use Rattle.zk_records.specs.Sinks.{writer_of}
use Rattle.zk_front.proofs.Taking.{goes_flushed, stops_flushing}
use Rattle.zk_front.proofs.serving.answer_piece.Goals as goal

pub returns-clause-ok : goal.returns-clause-ok
returns-clause-ok g c =
    goes_flushed g.S.Service.does c.args.connection.now c.take_piece.new.connection c.flush.new.self c.args.service.now c.take_piece.new.service (g.W.Write.contents (writer_of c.args.writer.now)) (g.W.Write.contents (writer_of c.take_piece.new.writer)) (g.W.Write.contents (writer_of c.flush.new.writer)) c.args.piece.now c.in_ok-take_piece.ensures.ok c.flush.result c.flush.ensures.ok

pub returns-clause-err : goal.returns-clause-err
returns-clause-err g c =
    stops_flushing g.S.Service.does c.args.connection.now c.take_piece.new.connection c.flush.new.self c.args.service.now c.take_piece.new.service (g.W.Write.contents (writer_of c.args.writer.now)) (g.W.Write.contents (writer_of c.take_piece.new.writer)) (g.W.Write.contents (writer_of c.flush.new.writer)) c.args.piece.now c.in_ok-take_piece.ensures.ok c.flush.result c.flush.ensures.err
