use Rattle.std.proofs.Common.{◌≡◌, ◌∙◌, ℕ, List, [], ◌∷◌, ◌++◌, length, refl, sym, ap, subst, append_assoc, length-append, arith}
use Rattle.std.proofs.lemmas.Result.{err_from_is_err_and}
use Rattle.zk_records.specs.Sinks.{writer_of}
use Rattle.zk_front.specs.Reaching.{Stops, Goes}
use Rattle.zk_front.specs.declared.fault.FrontFault.{FrontFault}
use Rattle.zk_front.specs.declared.fault.FrontFault.TheVariants as faults
use Rattle.zk_front.proofs.Taking.{fault_at, goes_more, goes_nowhere, goes_keeping, stops_in_line, stops_keeping}
use Rattle.zk_front.proofs.serving.take_piece.Goals as goal

pub loop-front-init : goal.loop-front-init
loop-front-init g c = (([], refl, goes_nowhere g.S.Service.does c.args.connection.now c.args.service.now (g.W.Write.contents (writer_of c.args.writer.now))), omega arith, refl)

pub returns-in_err-take_line-clause-err : goal.returns-in_err-take_line-clause-err
returns-in_err-take_line-clause-err g c =
    let p = err_from_is_err_and c.from_residual.result c.from_residual.ensures.1 in
    let so_far = c.loop-front.invariant.0 in
    let whole : c.args.piece.now ≡ so_far.0 ++ (c.in-Some.front.now ++ 10 ∷ c.in-Some.back.now) = so_far.1 ∙ ap (λ (l : List ℕ). so_far.0 ++ l) c.in-Some.ensures.0 in
    fault_at (λ (fault : FrontFault). Stops g.S.Service.does c.args.connection.now c.args.service.now (g.W.Write.contents (writer_of c.args.writer.now)) c.args.piece.now fault c.take_line.new.service (g.W.Write.contents (writer_of c.take_line.new.writer))) c.from_residual.result p.0 c.in_err-take_line.field-0.0 p.1 p.2
    (subst (λ (l : List ℕ). Stops g.S.Service.does c.args.connection.now c.args.service.now (g.W.Write.contents (writer_of c.args.writer.now)) l c.in_err-take_line.field-0.0 c.take_line.new.service (g.W.Write.contents (writer_of c.take_line.new.writer))) (sym whole)
    (stops_in_line g.S.Service.does c.args.connection.now c.loop-front.connection c.args.service.now c.loop-front.service (g.W.Write.contents (writer_of c.args.writer.now)) (g.W.Write.contents (writer_of c.loop-front.writer)) so_far.0 so_far.2 c.in-Some.front.now c.in-Some.back.now c.in_err-take_line.field-0.0 c.take_line.new.service (g.W.Write.contents (writer_of c.take_line.new.writer)) c.in_err-take_line.ensures.err))

pub loop-front-preserved : goal.loop-front-preserved
loop-front-preserved g c =
    let so_far = c.loop-front.invariant.0 in
    let whole : c.args.piece.now ≡ so_far.0 ++ (c.in-Some.front.now ++ 10 ∷ c.in-Some.back.now) = so_far.1 ∙ ap (λ (l : List ℕ). so_far.0 ++ l) c.in-Some.ensures.0 in (
      (
        so_far.0 ++ (c.in-Some.front.now ++ 10 ∷ []),
        whole ∙ ap (λ (l : List ℕ). so_far.0 ++ l) (sym (append_assoc c.in-Some.front.now (10 ∷ []) c.in-Some.back.now)) ∙ sym (append_assoc so_far.0 (c.in-Some.front.now ++ 10 ∷ []) c.in-Some.back.now),
        goes_more g.S.Service.does c.args.connection.now c.loop-front.connection c.args.service.now c.loop-front.service (g.W.Write.contents (writer_of c.args.writer.now)) (g.W.Write.contents (writer_of c.loop-front.writer)) so_far.0 so_far.2 (c.in-Some.front.now ++ 10 ∷ []) c.take_line.new.connection c.take_line.new.service (g.W.Write.contents (writer_of c.take_line.new.writer)) c.in_ok-take_line.ensures.ok,
      ),
      omega (arith, c.in_ok-take_line.ensures.one, c.loop-front.invariant.1, length-append c.in-Some.front.now (10 ∷ c.in-Some.back.now), ap length c.in-Some.ensures.0),
      c.in_ok-take_line.ensures.failures ∙ c.loop-front.invariant.2,
    )

pub returns-in_err-keep-clause-err : goal.returns-in_err-keep-clause-err
returns-in_err-keep-clause-err g c =
    let p = err_from_is_err_and c.from_residual-in_err-keep.result c.from_residual-in_err-keep.ensures.1 in
    let so_far = c.loop-front.invariant.0 in
    fault_at (λ (fault : FrontFault). Stops g.S.Service.does c.args.connection.now c.args.service.now (g.W.Write.contents (writer_of c.args.writer.now)) c.args.piece.now fault c.loop-front.service (g.W.Write.contents (writer_of c.loop-front.writer))) c.from_residual-in_err-keep.result p.0 faults.NoMemory p.1 p.2
    (subst (λ (l : List ℕ). Stops g.S.Service.does c.args.connection.now c.args.service.now (g.W.Write.contents (writer_of c.args.writer.now)) l faults.NoMemory c.loop-front.service (g.W.Write.contents (writer_of c.loop-front.writer))) (sym so_far.1)
    (stops_keeping g.S.Service.does c.args.connection.now c.loop-front.connection c.args.service.now c.loop-front.service (g.W.Write.contents (writer_of c.args.writer.now)) (g.W.Write.contents (writer_of c.loop-front.writer)) so_far.0 so_far.2 c.loop-front.rest.now))

pub returns-clause-ok : goal.returns-clause-ok
returns-clause-ok g c =
    let so_far = c.loop-front.invariant.0 in
    subst (λ (l : List ℕ). Goes g.S.Service.does c.args.connection.now c.args.service.now (g.W.Write.contents (writer_of c.args.writer.now)) l c.keep.new.self c.loop-front.service (g.W.Write.contents (writer_of c.loop-front.writer))) (sym so_far.1)
    (goes_keeping g.S.Service.does c.args.connection.now c.loop-front.connection c.args.service.now c.loop-front.service (g.W.Write.contents (writer_of c.args.writer.now)) (g.W.Write.contents (writer_of c.loop-front.writer)) so_far.0 so_far.2 c.keep.new.self c.loop-front.rest.now c.in_default.ensures c.in_ok-keep.ensures)
