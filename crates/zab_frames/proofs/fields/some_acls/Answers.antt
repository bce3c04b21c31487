use Rattle.std.proofs.lemmas.Result.{err_from_is_err_and}
use Rattle.zk_jute.specs.Reading.{many_at}
use Rattle.zab_frames.specs.Reading.{acl_at}
use Rattle.zk_jute.proofs.Turns.{goes_on, ends, is_done}
use Rattle.zab_frames.proofs.fields.some_acls.Goals as goal

pub returns-in_err-acl : goal.returns-in_err-acl
returns-in_err-acl c =
    let p = err_from_is_err_and c.from_residual.result c.from_residual.ensures.1 in
    rw (p.1, p.2) (ends acl_at c.in_err-acl.field-0.0 c.loop.entries.items c.args.count c.loop.counter c.loop.input.now (many_at acl_at c.args.count c.args.input.now.now) c.loop-test.true c.in_err-acl.ensures c.loop.invariant)

pub loop-preserved : goal.loop-preserved
loop-preserved c =
    rw c.in_ok-push.ensures.items (goes_on acl_at c.loop.entries.items c.args.count c.loop.counter c.loop.input.now c.in_ok-acl.field-0 c.acl.new.input.now (many_at acl_at c.args.count c.args.input.now.now) c.loop-test.true c.in_ok-acl.ensures c.loop.invariant)

pub returns : goal.returns
returns c =
    rw c.in_ok-new.ensures (is_done acl_at c.loop.entries.items c.args.count c.loop.counter c.loop.input.now (many_at acl_at c.args.count c.args.input.now.now) c.loop-test.false c.loop.invariant)
