use Rattle.zk_path.proofs.Children.{parent_drops_the_last_name}
use Rattle.zk_path.proofs.laws.parent_drops_the_last_name.Goals as goal

pub returns-clause-others : goal.returns-clause-others
returns-clause-others c = parent_drops_the_last_name
