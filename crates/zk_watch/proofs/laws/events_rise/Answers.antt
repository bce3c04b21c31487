use Rattle.zk_watch.proofs.Guide.{events_rise}
use Rattle.zk_watch.proofs.laws.events_rise.Goals as goal

pub returns : goal.returns
returns c = events_rise
