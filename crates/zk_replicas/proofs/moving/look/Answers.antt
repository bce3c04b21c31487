use Rattle.std.proofs.Common.{refl, sym, ◌∙◌}
use Rattle.zk_replicas.proofs.Replicas.{is_place, behind, answers}
use Rattle.zk_replicas.proofs.moving.look.Goals as goal

pub returns-in-Some-clause-looks : goal.returns-in-Some-clause-looks
returns-in-Some-clause-looks c = λ w kept.
    let rs = c.args.replicas.now in
    let here = is_place rs c.args.question.now.server c.index-replicas-number.result c.if-number-eq0.false c.if-number-replicas.false in
    behind w rs c.args.question.now _ _ c.in-Some.fault here refl (sym c.in-Some.is ∙ c.behind.ensures)

pub returns-clause-looks : goal.returns-clause-looks
returns-clause-looks c = λ w kept.
    let rs = c.args.replicas.now in
    let here = is_place rs c.args.question.now.server c.index-replicas-number.result c.if-number-eq0.false c.if-number-replicas.false in
    answers w rs c.args.question.now _ c.look.new.self c.in_ok-look.field-0 here (sym c.in_default.is ∙ c.behind.ensures) c.in_ok-look.ensures.told c.in_ok-look.ensures.watching
