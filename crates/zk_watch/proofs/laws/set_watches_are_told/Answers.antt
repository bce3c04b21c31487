use Rattle.zk_watch.proofs.Guide.{set_told, others_stay, twice_is_once}
use Rattle.zk_watch.proofs.laws.set_watches_are_told.Goals as goal

pub returns-clause-told : goal.returns-clause-told
returns-clause-told c = set_told

pub returns-clause-others : goal.returns-clause-others
returns-clause-others c = others_stay

pub returns-clause-twice : goal.returns-clause-twice
returns-clause-twice c = twice_is_once
