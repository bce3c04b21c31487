use Rattle.std.proofs.Common.{rules, ap, ◌∙◌}
use Rattle.zk_model.specs.Ensembles.{take_in}
use Rattle.zk_replicas.specs.Views.{tree_by}
use Rattle.zk_replicas.proofs.Unwatched.{untold}
use Rattle.zk_replicas.proofs.replica.Replica.take_unwatched.Goals as goal

pub returns : goal.returns
returns c =
    untold (tree_by c.self.inside.machine) (tree_by c.advance.new.machine) c.self.inside.answers.items c.push.new.self.items c.self.inside.watches c.self.inside.events.items c.args.tag c.args.txn.now c.in_ok-result.result _ (ap (λ v. v.watches) c.self.view_is ∙ c.requires) c.in_ok-result.ensures.stepped c.in_ok-push.ensures.items (search rules)
    ∙ ap (λ v. take_in v (record { tag = c.args.tag; txn = c.args.txn.now })) c.self.view_is
