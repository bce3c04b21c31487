-- What was written to both sinks, by the lemmas of ServesLaws.
use Rattle.std.proofs.Common.{rules, refl}
use Rattle.std.proofs.KnownBytes.{Keeps-refl}
use Rattle.zk_records.specs.Sinks.{writer_of}
use Rattle.zk_serve.proofs.ServesLaws.{no_port, not_written, unheard, miscounted}
use Rattle.zk_serve.proofs.serving.serve.Goals as goal

pub returns-then-not-has_port : goal.returns-then-not-has_port
returns-then-not-has_port g c =
    no_port g.O.Write.contents g.E.Write.contents c.args.serving.port c.args.output.now c.args.output.now c.args.faults.now c.tell.new.faults
    (record { bytes = Keeps-refl (g.O.Write.contents (writer_of c.args.output.now)); failures = refl }) c.tell.ensures

pub returns-then-is_err : goal.returns-then-is_err
returns-then-is_err g c =
    not_written g.O.Write.contents g.E.Write.contents c.args.serving.port c.args.output.now c.write_all.new.self c.args.faults.now c.tell-then-is_err.new.faults
    c.as_bytes.result.now (search rules) (search rules) c.tell-then-is_err.ensures

pub returns-in-Unheard : goal.returns-in-Unheard
returns-in-Unheard g c =
    unheard g.O.Write.contents g.E.Write.contents c.args.serving.port c.args.output.now c.write_all.new.self c.args.faults.now c.tell-in-Unheard.new.faults
    c.as_bytes.result.now (search rules) (search rules) c.tell-in-Unheard.ensures

pub returns-in-Miscounted : goal.returns-in-Miscounted
returns-in-Miscounted g c =
    miscounted g.O.Write.contents g.E.Write.contents c.args.serving.port c.args.output.now c.write_all.new.self c.args.faults.now c.tell-in-Miscounted.new.faults
    c.as_bytes.result.now (search rules) (search rules) c.tell-in-Miscounted.ensures
