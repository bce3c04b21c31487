use Rattle.std.proofs.Common.{[], refl}
use Rattle.zk_model.proofs.preparer.take_one.Goals as goal

pub returns-clause-state : goal.returns-clause-state
returns-clause-state c = c.taken.ensures.taken c.args.prep.now.state [] refl
