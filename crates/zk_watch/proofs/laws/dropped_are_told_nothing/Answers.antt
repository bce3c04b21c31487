use Rattle.zk_watch.proofs.Dropped.{stay_untold}
use Rattle.zk_watch.proofs.Guide.{dropped_told}
use Rattle.zk_watch.proofs.laws.dropped_are_told_nothing.Goals as goal

pub returns-clause-others : goal.returns-clause-others
returns-clause-others c = dropped_told

pub returns-clause-later : goal.returns-clause-later
returns-clause-later c = stay_untold
