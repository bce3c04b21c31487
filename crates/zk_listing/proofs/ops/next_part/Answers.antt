use Rattle.std.proofs.Common.{◌≡◌, true, false, sym, ◌∙◌, lit<}
use Rattle.std.proofs.lemmas.Result.{err_from_is_err_and}
use Rattle.zk_listing.specs.Reading.{begins_with_space}
use Rattle.zk_listing.proofs.PartLaws.{begins_first, parts_end, parts_fail, parts_step}
use Rattle.zk_listing.proofs.ops.next_part.Goals as goal

pub returns-then-not-starts_with : goal.returns-then-not-starts_with
returns-then-not-starts_with c =
    let text = c.args.input.now.now in
    let none : begins_with_space text ≡ false = begins_first text ∙ sym (c.starts_with.ensures.byte (lit< tt) (lit< tt) (λ w o h. h)) ∙ c.if-not-starts_with.true in
    parts_end text none

pub returns-in_err-part : goal.returns-in_err-part
returns-in_err-part c =
    let text = c.args.input.now.now in
    let space : begins_with_space text ≡ true = begins_first text ∙ sym (c.starts_with.ensures.byte (lit< tt) (lit< tt) (λ w o h. h)) ∙ c.if-not-starts_with.false in
    let p = err_from_is_err_and c.from_residual.result c.from_residual.ensures.1 in
    rw (p.1, p.2) (parts_fail c.in_err-part.field-0.0 text space c.in_err-part.ensures)

pub returns : goal.returns
returns c =
    let text = c.args.input.now.now in
    let space : begins_with_space text ≡ true = begins_first text ∙ sym (c.starts_with.ensures.byte (lit< tt) (lit< tt) (λ w o h. h)) ∙ c.if-not-starts_with.false in
    let step = parts_step text c.part.new.input.now c.in_ok-part.part space c.in_ok-part.ensures in
    (step.shorter, step.same)
