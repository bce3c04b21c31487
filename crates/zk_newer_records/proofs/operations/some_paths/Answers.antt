use Rattle.std.proofs.lemmas.Result.{err_from_is_err_and}
use Rattle.zk_jute.specs.Reading.{many_at, path_at}
use Rattle.zk_jute.proofs.Turns.{goes_on, ends, is_done}
use Rattle.zk_newer_records.proofs.operations.some_paths.Goals as goal

pub returns-in_err-path : goal.returns-in_err-path
returns-in_err-path c =
    let p = err_from_is_err_and c.from_residual.result c.from_residual.ensures.1 in
    rw (p.1, p.2) (ends path_at c.in_err-path.field-0.0 c.loop.paths.items c.args.count c.loop.counter c.loop.input.now (many_at path_at c.args.count c.args.input.now.now) c.loop-test.true c.in_err-path.ensures c.loop.invariant)

pub loop-preserved : goal.loop-preserved
loop-preserved c =
    rw c.in_ok-push.ensures.items (goes_on path_at c.loop.paths.items c.args.count c.loop.counter c.loop.input.now c.in_ok-path.field-0 c.path.new.input.now (many_at path_at c.args.count c.args.input.now.now) c.loop-test.true c.in_ok-path.ensures c.loop.invariant)

pub returns : goal.returns
returns c =
    rw c.new.ensures (is_done path_at c.loop.paths.items c.args.count c.loop.counter c.loop.input.now (many_at path_at c.args.count c.args.input.now.now) c.loop-test.false c.loop.invariant)
