use Rattle.std.proofs.Common.{◌≡◌, ◌+◌, [], ◌∷◌, ◌++◌, length, arith}
use Rattle.std.proofs.lemmas.List.{length-append}
use Rattle.std.proofs.lemmas.Result.{err_from_is_err_and}
use Rattle.zk_listing.specs.Reading.{many_at}
use Rattle.zk_listing.proofs.Turns.{goes_on, ends, is_done}
use Rattle.zk_run_script.specs.FirstLineReading.{weight_at}
use Rattle.zk_run_script.proofs.first_line_reading.each.Goals as goal

pub returns-in_err-weight-clause-taken : goal.returns-in_err-weight-clause-taken
returns-in_err-weight-clause-taken c =
    let p = err_from_is_err_and c.from_residual.result c.from_residual.ensures.1 in
    rw (p.1, p.2) (ends weight_at c.in_err-weight.field-0.0 c.loop.weights c.args.count c.loop.counter c.loop.input.now (many_at weight_at c.args.count c.args.input.now.now) c.loop-test.true c.in_err-weight.ensures.taken c.loop.invariant.0)

pub loop-preserved : goal.loop-preserved
loop-preserved c =
    let weight = c.in_ok-weight.field-0 in
    let counted : length (c.loop.weights ++ weight ∷ []) ≡ c.loop.counter + 1 = omega (arith, length-append c.loop.weights (weight ∷ []), c.loop.invariant.1) in
    rw c.push.ensures (
      goes_on weight_at c.loop.weights c.args.count c.loop.counter c.loop.input.now weight c.weight.new.input.now (many_at weight_at c.args.count c.args.input.now.now) c.loop-test.true c.in_ok-weight.ensures.taken c.loop.invariant.0,
      counted,
    )

pub returns-clause-taken : goal.returns-clause-taken
returns-clause-taken c =
    is_done weight_at c.loop.weights c.args.count c.loop.counter c.loop.input.now (many_at weight_at c.args.count c.args.input.now.now) c.loop-test.false c.loop.invariant.0
