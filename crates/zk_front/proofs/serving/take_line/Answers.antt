use Rattle.std.proofs.Common.{◌∙◌}
use Rattle.std.proofs.lemmas.Result.{err_from_is_err_and}
use Rattle.zk_records.specs.Sinks.{writer_of}
use Rattle.zk_front.specs.Reaching.{StopsInLine}
use Rattle.zk_front.specs.declared.fault.FrontFault.{FrontFault}
use Rattle.zk_front.specs.declared.fault.FrontFault.TheVariants as faults
use Rattle.zk_front.proofs.Taking.{goes_if, stops_if, fault_at, line_stops_adding, line_stops_asked}
use Rattle.zk_front.proofs.serving.take_line.Goals as goal

pub returns-in_err-keep-clause-err : goal.returns-in_err-keep-clause-err
returns-in_err-keep-clause-err g c =
    let p = err_from_is_err_and c.from_residual.result c.from_residual.ensures.1 in
    fault_at (λ (fault : FrontFault). StopsInLine g.S.Service.does c.args.connection.now c.args.service.now (g.W.Write.contents (writer_of c.args.writer.now)) c.args.text.now fault c.args.service.now (g.W.Write.contents (writer_of c.args.writer.now))) c.from_residual.result p.0 faults.NoMemory p.1 p.2
    (line_stops_adding g.S.Service.does c.args.connection.now c.args.service.now (g.W.Write.contents (writer_of c.args.writer.now)) c.args.text.now)

pub returns-in_err-end_line-clause-err : goal.returns-in_err-end_line-clause-err
returns-in_err-end_line-clause-err g c =
    let p = err_from_is_err_and c.from_residual-in_err-end_line.result c.from_residual-in_err-end_line.ensures.1 in
    fault_at (λ (fault : FrontFault). StopsInLine g.S.Service.does c.args.connection.now c.args.service.now (g.W.Write.contents (writer_of c.args.writer.now)) c.args.text.now fault c.end_line.new.service (g.W.Write.contents (writer_of c.args.writer.now))) c.from_residual-in_err-end_line.result p.0 faults.NoMemory p.1 (p.2 ∙ c.in_err-end_line.ensures.err.0)
    (line_stops_asked g.S.Service.does c.args.connection.now c.keep.new.self c.args.service.now (g.W.Write.contents (writer_of c.args.writer.now)) c.args.text.now c.requires.unended c.in_ok-keep.ensures c.end_line.new.service c.in_err-end_line.ensures.err.1)

pub returns-clause-ok : goal.returns-clause-ok
returns-clause-ok g c =
    goes_if g.S.Service.does c.args.connection.now c.keep.new.self c.args.service.now (g.W.Write.contents (writer_of c.args.writer.now)) c.args.text.now c.requires.unended c.in_ok-keep.ensures c.end_line.new.connection c.flush_if_full.new.self c.end_line.new.service (g.W.Write.contents (writer_of c.flush_if_full.new.writer)) c.in_ok-end_line.ensures.ok c.flush_if_full.result c.flush_if_full.ensures.ok

pub returns-clause-err : goal.returns-clause-err
returns-clause-err g c =
    stops_if g.S.Service.does c.args.connection.now c.keep.new.self c.args.service.now (g.W.Write.contents (writer_of c.args.writer.now)) c.args.text.now c.requires.unended c.in_ok-keep.ensures c.end_line.new.connection c.flush_if_full.new.self c.end_line.new.service (g.W.Write.contents (writer_of c.flush_if_full.new.writer)) c.in_ok-end_line.ensures.ok c.flush_if_full.result c.flush_if_full.ensures.err
