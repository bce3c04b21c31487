use Rattle.std.proofs.Common.{◌∙◌}
use Rattle.std.proofs.lemmas.Result.{err_from_is_err_and}
use Rattle.zk_records.specs.Sinks.{writer_of}
use Rattle.zk_front.proofs.Ending.{ends_unwritten}
use Rattle.zk_front.proofs.Reaches.{all_written}
use Rattle.zk_front.proofs.serving.finish.Goals as goal

pub returns-in_err-flush-clause-finishes : goal.returns-in_err-flush-clause-finishes
returns-in_err-flush-clause-finishes g c =
    let p = err_from_is_err_and c.from_residual-in_err-flush.result c.from_residual-in_err-flush.ensures.1 in
    ends_unwritten g.S.Service.does c.args.connection.now c.end_last_line.new.connection c.args.service.now c.end_last_line.new.service (g.W.Write.contents (writer_of c.args.writer.now)) (g.W.Write.contents (writer_of c.flush.new.writer)) p.0
    c.in_ok-end_last_line.ensures.ok (p.2 ∙ c.in_err-flush.ensures.err.0) c.in_err-flush.ensures.err.1 c.from_residual-in_err-flush.result p.1

pub returns-clause-finishes : goal.returns-clause-finishes
returns-clause-finishes g c = λ service0 contents0 read h.
    all_written g.S.Service.does service0 contents0 read c.end_last_line.new.connection c.end_last_line.new.service (g.W.Write.contents (writer_of c.args.writer.now)) (c.in_ok-end_last_line.ensures.ok service0 contents0 (g.W.Write.contents (writer_of c.args.writer.now)) read h) c.flush.new.self (g.W.Write.contents (writer_of c.flush.new.writer)) c.in_ok-flush.ensures.ok
