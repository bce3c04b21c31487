use Rattle.std.proofs.Common.{sym, ap, subst, ◌∙◌}
use Rattle.std.proofs.lemmas.List.{with_items_is}
use Rattle.zk_model.specs.Ensembles.{ensemble}
use Rattle.zk_ensemble.specs.Keeping.{IsStanding}
use Rattle.zk_ensemble.specs.Views.{below_by}
use Rattle.zk_ensemble.proofs.Keeping.{read_stands}
use Rattle.zk_ensemble.proofs.Runs.{looked_on}
use Rattle.zk_ensemble.proofs.ensemble.Ensemble.look.Goals as goal

pub invariant_of-self : goal.invariant_of-self
invariant_of-self c =
    let below = below_by c.self.inside.world in
    let w = c.self.inside.world.world in
    let news = c.look.new.replicas in
    subst (λ l. IsStanding below l c.self.inside.kept.items) (sym (with_items_is c.self.inside.replicas news (c.look.ensures.count ∙ c.deref_mut.ensures.len)))
    (read_stands below c.self.inside.replicas.items c.deref_mut.result.now news c.self.inside.kept.items c.args.question.now c.look.result c.self.invariant c.deref_mut.ensures.value c.look.ensures.count c.look.ensures.unchanged
    (λ kept. looked_on w c.self.inside.replicas.items c.deref_mut.result.now news c.args.question.now c.look.result c.running.result c.deref_mut.ensures.value c.running.ensures.why c.in_default.is (c.look.ensures.looks w kept)))

pub returns-clause-acts : goal.returns-clause-acts
returns-clause-acts c = rw (← c.self.view_is) (λ kept.
    let w = c.self.inside.world.world in
    let news = c.look.new.replicas in
    ap (λ l. (ensemble w l, c.look.result)) (with_items_is c.self.inside.replicas news (c.look.ensures.count ∙ c.deref_mut.ensures.len))
    ∙ looked_on w c.self.inside.replicas.items c.deref_mut.result.now news c.args.question.now c.look.result c.running.result c.deref_mut.ensures.value c.running.ensures.why c.in_default.is (c.look.ensures.looks w kept))
