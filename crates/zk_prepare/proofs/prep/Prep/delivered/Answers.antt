use Rattle.std.proofs.Common.{◌∙◌}
use Rattle.zk_prepare.proofs.Tails.{moved_over}
use Rattle.zk_prepare.proofs.prep.Prep.delivered.Goals as goal

pub returns-clause-delivered : goal.returns-clause-delivered
returns-clause-delivered c = λ committed tail stands fits. stands ∙ moved_over committed tail c.args.count
