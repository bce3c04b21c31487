use Rattle.zk_watch.proofs.Guide.{told_once}
use Rattle.zk_watch.proofs.laws.watches_are_told_once.Goals as goal

pub returns : goal.returns
returns c = told_once
