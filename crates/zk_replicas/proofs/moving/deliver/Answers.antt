use Rattle.std.proofs.Common.{rules, ap, ◌∙◌}
use Rattle.std.proofs.lemmas.Result.{on_ok_weaker}
use Rattle.zk_model.specs.Ensembles.{take_all}
use Rattle.zk_replicas.proofs.Keeping.{goes_on_so}
use Rattle.zk_replicas.proofs.moving.deliver.Goals as goal

pub returns-clause-taken : goal.returns-clause-taken
returns-clause-taken c =
    on_ok_weaker c.take_all-2.result (λ is.
    is ∙ ap (take_all c.go_on-done.new.self) c.behind.ensures
    ∙ goes_on_so c.args.replica.now c.go_on-done.new.self c.args.kept.now c.len-many.result c.go_on-done.result c.args.entries.now c.go_on-done.ensures.goes_on
    (c.requires (search rules)) c.len-many.ensures.value) c.take_all-2.ensures.taken
