use Rattle.std.proofs.lemmas.Result.{err_from_is_err_and}
use Rattle.zk_listing.specs.Reading.{many_at}
use Rattle.zk_request_syntax.specs.Reading.{digest_at}
use Rattle.zk_listing.proofs.Turns.{goes_on, ends, is_done}
use Rattle.zk_request_syntax.proofs.spaced.digests.Goals as goal

pub returns-in_err-digest : goal.returns-in_err-digest
returns-in_err-digest c =
    let p = err_from_is_err_and c.from_residual.result c.from_residual.ensures.1 in
    rw (p.1, p.2) (ends digest_at c.in_err-digest.field-0.0 c.loop.ids.items c.args.count c.loop.counter c.loop.input.now (many_at digest_at c.args.count c.args.input.now.now) c.loop-test.true c.in_err-digest.ensures c.loop.invariant)

pub loop-preserved : goal.loop-preserved
loop-preserved c =
    rw c.in_ok-push.ensures.items (goes_on digest_at c.loop.ids.items c.args.count c.loop.counter c.loop.input.now c.in_ok-digest.field-0 c.digest.new.input.now (many_at digest_at c.args.count c.args.input.now.now) c.loop-test.true c.in_ok-digest.ensures c.loop.invariant)

pub returns : goal.returns
returns c =
    rw c.new.ensures (is_done digest_at c.loop.ids.items c.args.count c.loop.counter c.loop.input.now (many_at digest_at c.args.count c.args.input.now.now) c.loop-test.false c.loop.invariant)
