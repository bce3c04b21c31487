use Rattle.zk_tree_changes.proofs.Parents.{at_slash}
use Rattle.zk_tree_changes.proofs.moved.before_last_slash.Goals as goal

pub returns-in-Some : goal.returns-in-Some
returns-in-Some c = at_slash c.args.path.now c.in-Some.above.now c.in-Some.field-0-1.now c.in-Some.ensures.cases
