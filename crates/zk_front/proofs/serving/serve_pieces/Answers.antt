use Rattle.std.proofs.Common.{◌≡◌, ◌∙◌, ℕ, ◌≤◌, List, [], ◌++◌, length, take, refl, sym, ap, subst, Result, Err, append-nil, length-take, arith, rules}
use Rattle.std.proofs.lemmas.Result.{err_from_is_err_and}
use Rattle.std.specs.Io.KnownBytes.{Consumes}
use Rattle.zk_records.specs.Sinks.{writer_of}
use Rattle.zk_log.specs.Devices.{reader_of, read_failures_of}
use Rattle.zk_front.specs.Serving.{Serves}
use Rattle.zk_front.specs.declared.fault.FrontFault.{FrontFault}
use Rattle.zk_front.specs.declared.fault.FrontFault.TheVariants as faults
use Rattle.zk_front.proofs.Pieces.{begun, consumed_nothing, consumed_more, consumed_same, read_failed, turns_used, stopped_by, served, at_end_if, no_read_failed, not_endless}
use Rattle.zk_front.proofs.serving.serve_pieces.Goals as goal

pub reads-init : goal.reads-init
reads-init g c = record {
  reached = ([], consumed_nothing (g.R.Read.remaining (reader_of c.args.reader.now)), begun g.S.Service.does c.args.connection.now c.args.service.now (g.W.Write.contents (writer_of c.args.writer.now)) c.requires.fresh);
  written = c.requires.fresh.page;
  lines = omega (arith, c.requires.fresh.lines);
  reads = refl;
  asks = omega arith;
  read_failures = refl;
  write_failures = refl;
  some = c.requires.some;
  most = c.requires.most;
}

pub returns-in-Err-clause-serves : goal.returns-in-Err-clause-serves
returns-in-Err-clause-serves g c =
    let so_far = c.reads.invariant.reached in
    served g.S.Service.does c.args.service.now c.reads.service (g.R.Read.remaining (reader_of c.args.reader.now)) (g.R.Read.remaining (reader_of c.read.new.self)) (g.W.Write.contents (writer_of c.args.writer.now)) (g.W.Write.contents (writer_of c.reads.writer)) so_far.0 (Err faults.Read)
    (consumed_same (g.R.Read.remaining (reader_of c.args.reader.now)) (g.R.Read.remaining (reader_of c.reads.reader)) (g.R.Read.remaining (reader_of c.read.new.self)) so_far.0 so_far.1 c.in-Err.ensures.bytes)
    (read_failed g.S.Service.does c.args.service.now (g.W.Write.contents (writer_of c.args.writer.now)) so_far.0 c.reads.connection c.reads.service (g.W.Write.contents (writer_of c.reads.writer)) so_far.2 c.reads.invariant.written) tt

pub returns-in-Ok-eq0-clause-serves : goal.returns-in-Ok-eq0-clause-serves
returns-in-Ok-eq0-clause-serves g c =
    let so_far = c.reads.invariant.reached in
    let nothing : Consumes (g.R.Read.remaining (reader_of c.reads.reader)) (g.R.Read.remaining (reader_of c.read.new.self)) [] = subst (λ (n : ℕ). Consumes (g.R.Read.remaining (reader_of c.reads.reader)) (g.R.Read.remaining (reader_of c.read.new.self)) (take n c.read.new.buf)) c.in-Ok-eq0.field-0-test c.in-Ok-eq0.ensures.bytes.0 in
    let consumed : Consumes (g.R.Read.remaining (reader_of c.args.reader.now)) (g.R.Read.remaining (reader_of c.read.new.self)) so_far.0 = subst (λ (l : List ℕ). Consumes (g.R.Read.remaining (reader_of c.args.reader.now)) (g.R.Read.remaining (reader_of c.read.new.self)) l) (append-nil so_far.0)
    (consumed_more (g.R.Read.remaining (reader_of c.args.reader.now)) (g.R.Read.remaining (reader_of c.reads.reader)) (g.R.Read.remaining (reader_of c.read.new.self)) so_far.0 [] so_far.1 nothing) in
    served g.S.Service.does c.args.service.now c.finish.new.service (g.R.Read.remaining (reader_of c.args.reader.now)) (g.R.Read.remaining (reader_of c.read.new.self)) (g.W.Write.contents (writer_of c.args.writer.now)) (g.W.Write.contents (writer_of c.finish.new.writer)) so_far.0 c.finish.result
    consumed (c.finish.ensures.finishes c.args.service.now (g.W.Write.contents (writer_of c.args.writer.now)) so_far.0 so_far.2)
    (at_end_if (g.R.Read.remaining (reader_of c.read.new.self)) c.finish.result (c.in-Ok-eq0.ensures.bytes.1 c.in-Ok-eq0.field-0-test (search rules)))

pub returns-in_err-answer_piece-in-Ok-clause-serves : goal.returns-in_err-answer_piece-in-Ok-clause-serves
returns-in_err-answer_piece-in-Ok-clause-serves g c =
    let p = err_from_is_err_and c.from_residual.result c.from_residual.ensures.1 in
    let so_far = c.reads.invariant.reached in
    let piece : List ℕ = take c.in-Ok.count c.read.new.buf in
    let stops = c.in_err-answer_piece-in-Ok.ensures.err in
    subst (λ (r : Result ℕ FrontFault). Serves g.S.Service.does c.args.service.now c.answer_piece.new.service (g.R.Read.remaining (reader_of c.args.reader.now)) (g.R.Read.remaining (reader_of c.read.new.self)) (g.W.Write.contents (writer_of c.args.writer.now)) (g.W.Write.contents (writer_of c.answer_piece.new.writer)) r) (sym (p.1 ∙ ap (λ (f : FrontFault). Err f) p.2))
    (served g.S.Service.does c.args.service.now c.answer_piece.new.service (g.R.Read.remaining (reader_of c.args.reader.now)) (g.R.Read.remaining (reader_of c.read.new.self)) (g.W.Write.contents (writer_of c.args.writer.now)) (g.W.Write.contents (writer_of c.answer_piece.new.writer)) (so_far.0 ++ piece) (Err c.in_err-answer_piece-in-Ok.field-0.0)
    (consumed_more (g.R.Read.remaining (reader_of c.args.reader.now)) (g.R.Read.remaining (reader_of c.reads.reader)) (g.R.Read.remaining (reader_of c.read.new.self)) so_far.0 piece so_far.1 c.in-Ok.ensures.bytes.0)
    (stopped_by g.S.Service.does c.args.service.now (g.W.Write.contents (writer_of c.args.writer.now)) (so_far.0 ++ piece) c.answer_piece.new.service (g.W.Write.contents (writer_of c.answer_piece.new.writer)) c.in_err-answer_piece-in-Ok.field-0.0 stops.0 (stops.1 c.args.service.now (g.W.Write.contents (writer_of c.args.writer.now)) so_far.0 so_far.2)) tt)

pub reads-preserved : goal.reads-preserved
reads-preserved g c =
    let so_far = c.reads.invariant.reached in
    let piece : List ℕ = take c.in-Ok.count c.read.new.buf in
    let kept : length c.read.new.buf ≡ length c.reads.piece = search rules in
    let short : length piece ≤ 65536 = simp length-take (omega (arith, kept, c.reads.invariant.most)) in record {
      reached = (
        so_far.0 ++ piece,
        consumed_more (g.R.Read.remaining (reader_of c.args.reader.now)) (g.R.Read.remaining (reader_of c.reads.reader)) (g.R.Read.remaining (reader_of c.read.new.self)) so_far.0 piece so_far.1 c.in-Ok.ensures.bytes.0,
        c.in_ok-answer_piece-in-Ok.ensures.ok c.args.service.now (g.W.Write.contents (writer_of c.args.writer.now)) so_far.0 so_far.2,
      );
      written = c.in_ok-answer_piece-in-Ok.ensures.written;
      lines = omega (arith, c.in_ok-answer_piece-in-Ok.ensures.few, short, c.reads.invariant.lines, c.reads-test.true);
      reads = omega (arith, c.read.ensures.reads, c.reads.invariant.reads, c.reads-test.true);
      asks = omega (arith, c.read.ensures.asked, kept, c.reads.invariant.asks, c.reads.invariant.most);
      read_failures = c.in-Ok.ensures.failures ∙ c.reads.invariant.read_failures;
      write_failures = c.in_ok-answer_piece-in-Ok.ensures.failures ∙ c.reads.invariant.write_failures;
      some = omega (arith, kept, c.reads.invariant.some);
      most = omega (arith, kept, c.reads.invariant.most);
    }

pub returns-clause-serves : goal.returns-clause-serves
returns-clause-serves g c =
    let so_far = c.reads.invariant.reached in
    served g.S.Service.does c.args.service.now c.reads.service (g.R.Read.remaining (reader_of c.args.reader.now)) (g.R.Read.remaining (reader_of c.reads.reader)) (g.W.Write.contents (writer_of c.args.writer.now)) (g.W.Write.contents (writer_of c.reads.writer)) so_far.0 (Err faults.Endless) so_far.1
    (turns_used g.S.Service.does c.args.service.now (g.W.Write.contents (writer_of c.args.writer.now)) so_far.0 c.reads.connection c.reads.service (g.W.Write.contents (writer_of c.reads.writer)) so_far.2 c.reads.invariant.written) tt

pub returns-in-Ok-eq0-clause-endless : goal.returns-in-Ok-eq0-clause-endless
returns-in-Ok-eq0-clause-endless g c = λ e. not_endless c.finish.result c.finish.ensures.stops e

pub returns-in-Ok-eq0-clause-read_failures : goal.returns-in-Ok-eq0-clause-read_failures
returns-in-Ok-eq0-clause-read_failures g c =
    c.in-Ok-eq0.ensures.failures ∙ c.reads.invariant.read_failures ∙ no_read_failed (read_failures_of c.args.reader.now) c.finish.result c.finish.ensures.stops
