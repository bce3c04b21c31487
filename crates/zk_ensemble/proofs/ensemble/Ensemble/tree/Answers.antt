use Rattle.std.proofs.Common.{sym, ap, ◌∙◌}
use Rattle.std.proofs.lemmas.Result.{IfOk-weaker}
use Rattle.std.specs.Option.{option_copied}
use Rattle.zk_model.specs.Ensembles.{replica_at}
use Rattle.zk_ensemble.specs.Views.{below_by, tree_in}
use Rattle.zk_ensemble.proofs.Runs.{tree_of_table}
use Rattle.zk_ensemble.proofs.ensemble.Ensemble.tree.Goals as goal

pub returns-in-Some-clause-table : goal.returns-in-Some-clause-table
returns-in-Some-clause-table c = rw (← c.self.view_is) (λ one.
    IfOk-weaker c.tree.result _ _ (λ machine is.
    ap (λ m. m.state) is
    ∙ ap (λ o. tree_in (option_copied o)) (sym c.in-Some.is)
    ∙ ap tree_in (c.find.ensures ∙ ap (λ rs. replica_at rs c.args.number) c.deref.ensures.value)
    ∙ tree_of_table (below_by c.self.inside.world) c.self.inside.replicas.items c.args.number c.self.invariant.run one) c.tree.ensures)

pub returns-in-None-clause-table : goal.returns-in-None-clause-table
returns-in-None-clause-table c = rw (← c.self.view_is) (λ one.
    IfOk-weaker c.new.result _ _ (λ machine is.
    ap (λ m. m.state) is
    ∙ ap (λ o. tree_in (option_copied o)) (sym c.in-None.is)
    ∙ ap tree_in (c.find.ensures ∙ ap (λ rs. replica_at rs c.args.number) c.deref.ensures.value)
    ∙ tree_of_table (below_by c.self.inside.world) c.self.inside.replicas.items c.args.number c.self.invariant.run one) c.new.ensures)
