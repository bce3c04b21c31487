use Rattle.std.proofs.Common.{◌-◌, ◌<◌, length}
use Rattle.std.proofs.lemmas.Option.{slice_get-get_or}
use Rattle.std.proofs.lemmas.Result.{on_ok_weaker, on_err_weaker}
use Rattle.zk_model.specs.Ensembles.{fresh, shown_then}
use Rattle.zk_replicas.proofs.Keeping.{below_it, kept_then}
use Rattle.zk_replicas.proofs.Replicas.{is_place, replaced}
use Rattle.zk_replicas.proofs.moving.catch_up.Goals as goal

pub returns-clause-shown : goal.returns-clause-shown
returns-clause-shown c =
    let here = is_place c.args.replicas.now c.args.number c.index-replicas-number.result c.if-number-eq0.false c.if-number-replicas.false in
    on_ok_weaker c.bring_up.result (λ is.
    replaced (shown_then c.args.running c.args.before c.args.delivered.now) c.args.replicas.now c.args.number _ c.bring_up.new.replica here is) c.bring_up.ensures.shown

pub returns-clause-forgets : goal.returns-clause-forgets
returns-clause-forgets c =
    let here = is_place c.args.replicas.now c.args.number c.index-replicas-number.result c.if-number-eq0.false c.if-number-replicas.false in
    on_err_weaker c.bring_up.result (λ is.
    replaced (λ _. fresh) c.args.replicas.now c.args.number _ c.bring_up.new.replica here is) c.bring_up.ensures.forgets

pub returns-clause-aside : goal.returns-clause-aside
returns-clause-aside c =
    let rs = c.args.replicas.now in
    let kept = c.args.kept.now in
    let number = c.args.number in
    let here = is_place rs number c.index-replicas-number.result c.if-number-eq0.false c.if-number-replicas.false in
    let low : number - 1 < length kept = below_it number (length kept) (length rs) c.if-number-eq0.false c.if-number-replicas.false c.requires.places in
    kept_then kept (number - 1) _ c.bring_up.new.kept rs number _ (slice_get-get_or kept (number - 1) c.index-kept-number.result low) here.at c.bring_up.ensures.aside
