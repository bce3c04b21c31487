use Rattle.zk_path.proofs.Children.{child_adds_a_name, paths_are_children}
use Rattle.zk_path.proofs.laws.child_adds_a_name.Goals as goal

pub returns-clause-child : goal.returns-clause-child
returns-clause-child c = child_adds_a_name

pub returns-clause-each : goal.returns-clause-each
returns-clause-each c = paths_are_children
