use Rattle.std.proofs.lemmas.Result.{err_from_is_err_and}
use Rattle.zk_jute.specs.Reading.{many_at}
use Rattle.zk_frames.specs.Reading.{acl_record_at}
use Rattle.zk_jute.proofs.Turns.{goes_on, ends, is_done}
use Rattle.zk_frames.proofs.field_readers.some_records.Goals as goal

pub returns-in_err-acl_record : goal.returns-in_err-acl_record
returns-in_err-acl_record c =
    let p = err_from_is_err_and c.from_residual.result c.from_residual.ensures.1 in
    rw (p.1, p.2) (ends acl_record_at c.in_err-acl_record.field-0.0 c.loop.records.items c.args.count c.loop.counter c.loop.input.now (many_at acl_record_at c.args.count c.args.input.now.now) c.loop-test.true c.in_err-acl_record.ensures c.loop.invariant)

pub loop-preserved : goal.loop-preserved
loop-preserved c =
    rw c.in_ok-push.ensures.items (goes_on acl_record_at c.loop.records.items c.args.count c.loop.counter c.loop.input.now c.in_ok-acl_record.field-0 c.acl_record.new.input.now (many_at acl_record_at c.args.count c.args.input.now.now) c.loop-test.true c.in_ok-acl_record.ensures c.loop.invariant)

pub returns : goal.returns
returns c =
    rw c.new.ensures (is_done acl_record_at c.loop.records.items c.args.count c.loop.counter c.loop.input.now (many_at acl_record_at c.args.count c.args.input.now.now) c.loop-test.false c.loop.invariant)
