use Rattle.std.proofs.Common.{sym}
use Rattle.std.proofs.lemmas.Result.{err_from_is_err_and}
use Rattle.std.specs.FinMap as finite
use Rattle.zk_replay.specs.Bases.{stored_fault, drafted_fault}
use Rattle.zk_replay.proofs.Failing.{fails_too, stored_well, stored_badly, all_well}
use Rattle.zk_replay.proofs.Turning.{drafts_on, all_drafted}
use Rattle.zk_replay.proofs.draft.drafted.Goals as goal

pub loop-one-preserved : goal.loop-one-preserved
loop-one-preserved c =
    let stored = c.args.stored.now in
    let i = c.loop-one.one-index in
    let accesses = c.args.accesses.now in
    let is = c.in_ok-insert_stored.ensures in
    let so_far = c.loop-one.invariant in
    (drafts_on accesses c.loop-one.drafts c.insert_stored.new.drafts _ stored i c.one-item.result c.loop-one-test.true c.one-item.is is.inserted so_far.0, stored_well accesses c.loop-one.drafts c.insert_stored.new.drafts (drafted_fault accesses finite.empty stored) stored i c.one-item.result c.loop-one-test.true c.one-item.is is.inserted is.exact so_far.1)

pub returns-in_err-insert_stored-clause-exact : goal.returns-in_err-insert_stored-clause-exact
returns-in_err-insert_stored-clause-exact c =
    let stored = c.args.stored.now in
    let i = c.loop-one.one-index in
    let accesses = c.args.accesses.now in
    let all = drafted_fault accesses finite.empty stored in
    let p = err_from_is_err_and c.from_residual-in_err-insert_stored.result c.from_residual-in_err-insert_stored.ensures.1 in
    rw (p.1, p.2) (fails_too (stored_fault c.loop-one.drafts c.one-item.result) all c.in_err-insert_stored.field-0.0 (stored_badly accesses c.loop-one.drafts all stored i c.one-item.result c.loop-one-test.true c.one-item.is c.loop-one.invariant.1) c.in_err-insert_stored.ensures.exact)

pub returns-clause-drafted : goal.returns-clause-drafted
returns-clause-drafted c =
    sym (all_drafted c.args.accesses.now c.loop-one.drafts _ c.args.stored.now c.loop-one.one-index c.loop-one-test.false c.loop-one.invariant.0)

pub returns-clause-exact : goal.returns-clause-exact
returns-clause-exact c =
    all_well c.args.accesses.now c.loop-one.drafts (drafted_fault c.args.accesses.now finite.empty c.args.stored.now) c.args.stored.now c.loop-one.one-index c.loop-one-test.false c.loop-one.invariant.1
