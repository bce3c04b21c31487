use Rattle.std.proofs.Common.{◌∷◌, ◌-◌, [], rules}
use Rattle.zab_model.specs.declared.event.Event.TheVariants.{Lead}
use Rattle.zk_model.specs.declared.event.Event.TheVariants as events
use Rattle.zk_front.specs.ServiceStarting.{followers}
use Rattle.zk_front.proofs.Running.{ran_then, broke_first, broke_behind}
use Rattle.zk_front.proofs.start.begin.Goals as goal

pub returns-clause-ok : goal.returns-clause-ok
returns-clause-ok c =
    ran_then c.args.ensemble.now c.obey.new.ensemble c.follow_all.new.ensemble (events.World (Lead 1) ∷ []) (followers (c.args.count - 1)) c.in_ok-obey.ensures.ok c.in_ok-follow_all.ensures.ok

pub returns-in_err-obey-clause-err : goal.returns-in_err-obey-clause-err
returns-in_err-obey-clause-err c =
    let it = broke_first c.args.ensemble.now c.obey.new.ensemble (events.World (Lead 1)) (followers (c.args.count - 1)) c.in_err-obey.field-0.0 c.in_err-obey.ensures.err in
    search (rules, it)

pub returns-in_err-follow_all-clause-err : goal.returns-in_err-follow_all-clause-err
returns-in_err-follow_all-clause-err c =
    let it = broke_behind c.args.ensemble.now c.obey.new.ensemble c.follow_all.new.ensemble (events.World (Lead 1)) (followers (c.args.count - 1)) c.in_err-follow_all.field-0.0 c.in_ok-obey.ensures.ok c.in_err-follow_all.ensures.err in
    search (rules, it)
