use Rattle.std.proofs.Common.{ℕ, Result, Err, refl, sym, ap, subst, ◌∙◌, arith}
use Rattle.std.proofs.lemmas.Result.{err_from_is_err_and}
use Rattle.zk_records.specs.Sinks.{writer_of}
use Rattle.zk_log.specs.Devices.{reader_of}
use Rattle.zk_front.specs.Serving.{Serves}
use Rattle.zk_front.specs.declared.fault.FrontFault.{FrontFault}
use Rattle.zk_front.specs.declared.fault.FrontFault.TheVariants as faults
use Rattle.zk_front.proofs.Pieces.{nothing_served, stops_not_endless}
use Rattle.zk_front.proofs.serving.serve_lines.Goals as goal

pub returns-in_err-piece : goal.returns-in_err-piece
returns-in_err-piece g c =
    let p = err_from_is_err_and c.from_residual.result c.from_residual.ensures.1 in record {
      serves = subst (λ (r : Result ℕ FrontFault). Serves g.S.Service.does c.args.service.now c.args.service.now (g.R.Read.remaining (reader_of c.args.reader.now)) (g.R.Read.remaining (reader_of c.args.reader.now)) (g.W.Write.contents (writer_of c.args.writer.now)) (g.W.Write.contents (writer_of c.args.writer.now)) r) (sym (p.1 ∙ ap (λ (f : FrontFault). Err f) p.2))
          (nothing_served g.S.Service.does c.args.service.now (g.R.Read.remaining (reader_of c.args.reader.now)) (g.W.Write.contents (writer_of c.args.writer.now)));
      reads = omega arith;
      asks = omega arith;
      endless = λ e. stops_not_endless c.from_residual.result faults.NoMemory tt (p.1 ∙ ap (λ (f : FrontFault). Err f) p.2) e;
      read_failures = rw (p.1, p.2) refl;
      write_failures = rw (p.1, p.2) refl;
    }
