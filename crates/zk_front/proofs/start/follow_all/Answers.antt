use Rattle.std.proofs.Common.{◌≡◌, ◌<◌, ◌-◌, ℕ, rules, subst, arith}
use Rattle.zk_front.specs.Happening.{Ran}
use Rattle.zk_front.specs.ServiceStarting.{followers}
use Rattle.zk_front.proofs.Running.{one_more_follows, broke_at}
use Rattle.zk_front.proofs.start.follow_all.Goals as goal

pub loop-place-preserved : goal.loop-place-preserved
loop-place-preserved c = one_more_follows c.args.ensemble.now c.loop-place.ensemble c.obey.new.ensemble c.loop-place.place c.loop-place.invariant c.in_ok-obey.ensures.ok

pub returns-clause-ok : goal.returns-clause-ok
returns-clause-ok c =
    let at : c.loop-place.place ≡ c.args.count - 1 = omega arith in
    subst (λ (n : ℕ). Ran c.args.ensemble.now (followers n) c.loop-place.ensemble) at c.loop-place.invariant

pub returns-in_err-obey-clause-err : goal.returns-in_err-obey-clause-err
returns-in_err-obey-clause-err c =
    let it = broke_at c.args.ensemble.now c.loop-place.ensemble c.obey.new.ensemble c.loop-place.place (c.args.count - 1) c.in_err-obey.field-0.0 (search rules) c.loop-place.invariant c.in_err-obey.ensures.err in
    search (rules, it)
