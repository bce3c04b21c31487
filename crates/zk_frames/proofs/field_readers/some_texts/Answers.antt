use Rattle.std.proofs.lemmas.Result.{err_from_is_err_and}
use Rattle.zk_jute.specs.Reading.{many_at, text_at}
use Rattle.zk_jute.proofs.Turns.{goes_on, ends, is_done}
use Rattle.zk_frames.proofs.field_readers.some_texts.Goals as goal

pub returns-in_err-text : goal.returns-in_err-text
returns-in_err-text c =
    let p = err_from_is_err_and c.from_residual.result c.from_residual.ensures.1 in
    rw (p.1, p.2) (ends text_at c.in_err-text.field-0.0 c.loop.texts.items c.args.count c.loop.counter c.loop.input.now (many_at text_at c.args.count c.args.input.now.now) c.loop-test.true c.in_err-text.ensures c.loop.invariant)

pub loop-preserved : goal.loop-preserved
loop-preserved c =
    rw c.in_ok-push.ensures.items (goes_on text_at c.loop.texts.items c.args.count c.loop.counter c.loop.input.now c.in_ok-text.field-0 c.text.new.input.now (many_at text_at c.args.count c.args.input.now.now) c.loop-test.true c.in_ok-text.ensures c.loop.invariant)

pub returns : goal.returns
returns c =
    rw c.new.ensures (is_done text_at c.loop.texts.items c.args.count c.loop.counter c.loop.input.now (many_at text_at c.args.count c.args.input.now.now) c.loop-test.false c.loop.invariant)
