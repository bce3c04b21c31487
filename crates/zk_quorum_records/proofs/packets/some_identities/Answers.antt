use Rattle.std.proofs.lemmas.Result.{err_from_is_err_and}
use Rattle.zk_jute.specs.Reading.{many_at}
use Rattle.zk_jute.proofs.Turns.{goes_on, ends, is_done}
use Rattle.zk_quorum_records.specs.Reading.{identity_at}
use Rattle.zk_quorum_records.proofs.packets.some_identities.Goals as goal

pub returns-in_err-identity : goal.returns-in_err-identity
returns-in_err-identity c =
    let p = err_from_is_err_and c.from_residual.result c.from_residual.ensures.1 in
    rw (p.1, p.2) (ends identity_at c.in_err-identity.field-0.0 c.loop.ids.items c.args.count c.loop.counter c.loop.input.now (many_at identity_at c.args.count c.args.input.now.now) c.loop-test.true c.in_err-identity.ensures c.loop.invariant)

pub loop-preserved : goal.loop-preserved
loop-preserved c =
    rw c.in_ok-push.ensures.items (goes_on identity_at c.loop.ids.items c.args.count c.loop.counter c.loop.input.now c.in_ok-identity.field-0 c.identity.new.input.now (many_at identity_at c.args.count c.args.input.now.now) c.loop-test.true c.in_ok-identity.ensures c.loop.invariant)

pub returns : goal.returns
returns c =
    rw c.new.ensures (is_done identity_at c.loop.ids.items c.args.count c.loop.counter c.loop.input.now (many_at identity_at c.args.count c.args.input.now.now) c.loop-test.false c.loop.invariant)
