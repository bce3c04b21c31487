use Rattle.std.proofs.Common.{sym, ◌∙◌}
use Rattle.std.proofs.lemmas.Result.{err_from_is_err_and}
use Rattle.zk_request_syntax.proofs.PartTexts.{parts_end, parts_fail, parts_step}
use Rattle.zk_request_syntax.proofs.Readings.{nothing_left, something_left}
use Rattle.zk_request_syntax.proofs.parts.next_part.Goals as goal

pub returns-then-is_empty : goal.returns-then-is_empty
returns-then-is_empty c = parts_end c.args.input.now.now (nothing_left c.args.input.now.now (sym c.is_empty.ensures ∙ c.if-is_empty.true))

pub returns-in_err-part : goal.returns-in_err-part
returns-in_err-part c =
    let p = err_from_is_err_and c.from_residual.result c.from_residual.ensures.1 in
    rw (p.1, p.2) (parts_fail c.in_err-part.field-0.0 c.args.input.now.now (something_left c.args.input.now.now (sym c.is_empty.ensures ∙ c.if-is_empty.false)) c.in_err-part.ensures)

pub returns : goal.returns
returns c =
    let step = parts_step c.args.input.now.now c.separated.new.input.now c.in_ok-part.part c.in_ok-part.ensures in
    (step.shorter, step.same)
