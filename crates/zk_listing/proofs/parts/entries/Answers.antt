use Rattle.std.proofs.lemmas.Result.{err_from_is_err_and}
use Rattle.zk_listing.specs.Reading.{many_at, entry_at}
use Rattle.zk_listing.proofs.Turns.{goes_on, ends, is_done}
use Rattle.zk_listing.proofs.parts.entries.Goals as goal

pub returns-in_err-entry : goal.returns-in_err-entry
returns-in_err-entry c =
    let p = err_from_is_err_and c.from_residual.result c.from_residual.ensures.1 in
    rw (p.1, p.2) (ends entry_at c.in_err-entry.field-0.0 c.loop.entries.items c.args.count c.loop.counter c.loop.input.now (many_at entry_at c.args.count c.args.input.now.now) c.loop-test.true c.in_err-entry.ensures c.loop.invariant)

pub loop-preserved : goal.loop-preserved
loop-preserved c =
    rw c.in_ok-push.ensures.items (goes_on entry_at c.loop.entries.items c.args.count c.loop.counter c.loop.input.now c.in_ok-entry.field-0 c.entry.new.input.now (many_at entry_at c.args.count c.args.input.now.now) c.loop-test.true c.in_ok-entry.ensures c.loop.invariant)

pub returns : goal.returns
returns c =
    rw c.in_ok-new.ensures (is_done entry_at c.loop.entries.items c.args.count c.loop.counter c.loop.input.now (many_at entry_at c.args.count c.args.input.now.now) c.loop-test.false c.loop.invariant)
