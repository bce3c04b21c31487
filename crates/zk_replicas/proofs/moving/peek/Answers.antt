use Rattle.std.proofs.Common.{refl, sym, ap, ◌∙◌}
use Rattle.zk_model.specs.Ensembles.{Ensemble, Told, watching}
use Rattle.zk_replicas.proofs.Replicas.{is_here, behind, answers}
use Rattle.zk_replicas.proofs.moving.peek.Goals as goal

pub returns-in-Some : goal.returns-in-Some
returns-in-Some c = λ w kept.
    let rs = c.args.replicas.now in
    let here = is_here rs c.args.question.now.server c.index-replicas-number.result c.if-number-eq0.false c.if-number-replicas.false c.index-replicas-number.is in
    ap (λ (p : Ensemble × Told). p.1) (behind w rs c.args.question.now _ _ c.in-Some.fault here refl (sym c.in-Some.is ∙ c.behind.ensures))

pub returns : goal.returns
returns c = λ w kept.
    let rs = c.args.replicas.now in
    let here = is_here rs c.args.question.now.server c.index-replicas-number.result c.if-number-eq0.false c.if-number-replicas.false c.index-replicas-number.is in
    ap (λ (p : Ensemble × Told). p.1) (answers w rs c.args.question.now _ (watching c.args.question.now c.in_ok-reply_of.field-0 c.index-replicas-number.result) c.in_ok-reply_of.field-0 here (sym c.in_default.is ∙ c.behind.ensures) c.in_ok-reply_of.ensures refl)
