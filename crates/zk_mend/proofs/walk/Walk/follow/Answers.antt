use Rattle.std.proofs.Common.{rules}
use Rattle.zk_mend.proofs.Steps.{followed}
use Rattle.zk_mend.proofs.walk.Walk.follow.Goals as goal

pub returns : goal.returns
returns c = λ place h. followed place c.args.self.now _ c.args.newer c.args.count c.args.lists_others h c.requires.count (search rules) (search rules) (search rules) (search rules) (search rules) (search rules) (search rules) (search rules)
