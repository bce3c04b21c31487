use Rattle.std.proofs.lemmas.Result.{err_from_is_err_and}
use Rattle.std.specs.Int.{w64}
use Rattle.zk_jute.specs.Reading.{many_at}
use Rattle.zab_frames.specs.Reading.{natural_at}
use Rattle.zk_jute.proofs.Turns.{goes_on, ends, is_done}
use Rattle.zab_frames.proofs.entries.some_tags.Goals as goal

pub returns-in_err-long_word : goal.returns-in_err-long_word
returns-in_err-long_word c =
    let p = err_from_is_err_and c.from_residual.result c.from_residual.ensures.1 in
    rw (p.1, p.2) (ends (natural_at w64) c.in_err-long_word.field-0.0 c.loop.tags.items c.args.count c.loop.counter c.loop.input.now (many_at (natural_at w64) c.args.count c.args.input.now.now) c.loop-test.true c.in_err-long_word.ensures c.loop.invariant)

pub loop-preserved : goal.loop-preserved
loop-preserved c =
    rw c.in_ok-push.ensures.items (goes_on (natural_at w64) c.loop.tags.items c.args.count c.loop.counter c.loop.input.now c.in_ok-long_word.field-0 c.long_word.new.input.now (many_at (natural_at w64) c.args.count c.args.input.now.now) c.loop-test.true c.in_ok-long_word.ensures c.loop.invariant)

pub returns : goal.returns
returns c =
    (is_done (natural_at w64) c.loop.tags.items c.args.count c.loop.counter c.loop.input.now (many_at (natural_at w64) c.args.count c.args.input.now.now) c.loop-test.false c.loop.invariant)
