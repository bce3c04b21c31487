use Rattle.std.proofs.Common.{ap, ◌∙◌}
use Rattle.zk_prepare.proofs.Tails.{taken_over}
use Rattle.zk_prepare.proofs.prep.Prep.taken.Goals as goal

pub returns-clause-taken : goal.returns-clause-taken
returns-clause-taken c = λ committed tail was. taken_over committed tail c.args.txn.now _ _ c.in-Ok.ensures.stepped (ap (λ p. p.state) c.self.view_is ∙ was)
