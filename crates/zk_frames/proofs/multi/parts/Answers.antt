use Rattle.std.proofs.Common.{Ok, ap, ◌∙◌}
use Rattle.std.proofs.lemmas.Result.{err_from_is_err_and}
use Rattle.zk_frames.specs.Reading.{parts_at}
use Rattle.zk_frames.proofs.MultiLaws.{goes_on, is_ended, fails, runs_out}
use Rattle.zk_frames.proofs.multi.parts.Goals as goal

pub returns-in_err-part : goal.returns-in_err-part
returns-in_err-part c =
    let p = err_from_is_err_and c.from_residual.result c.from_residual.ensures.1 in
    rw (p.1, p.2) (fails c.in_err-part.field-0.0 c.loop.parts.items c.args.count c.loop.counter c.loop.input.now (parts_at c.args.count c.args.input.now.now) c.loop-test.true c.in_err-part.ensures c.loop.invariant)

pub returns-in-None : goal.returns-in-None
returns-in-None c =
    let ended = c.in_ok-part.ensures ∙ ap (λ item. Ok (item, c.item.new.input.now)) c.in-None.is in
    rw c.new.ensures (is_ended c.loop.parts.items c.args.count c.loop.counter c.loop.input.now c.item.new.input.now (parts_at c.args.count c.args.input.now.now) c.loop-test.true ended c.loop.invariant)

pub loop-preserved : goal.loop-preserved
loop-preserved c =
    let read = c.in_ok-part.ensures ∙ ap (λ item. Ok (item, c.item.new.input.now)) c.in-Some.is in
    rw c.in_ok-push-in-Some.ensures.items (goes_on c.loop.parts.items c.args.count c.loop.counter c.loop.input.now c.in-Some.part c.item.new.input.now (parts_at c.args.count c.args.input.now.now) c.loop-test.true read c.loop.invariant)

pub returns : goal.returns
returns c = runs_out c.loop.parts.items c.args.count c.loop.counter c.loop.input.now (parts_at c.args.count c.args.input.now.now) c.loop-test.false c.loop.invariant
