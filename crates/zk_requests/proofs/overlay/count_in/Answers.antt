use Rattle.std.proofs.Common.{sym}
use Rattle.zk_requests.proofs.Laying.{none_below}
use Rattle.zk_requests.proofs.overlay.count_in.Goals as goal

pub returns-in-None : goal.returns-in-None
returns-in-None c = none_below c.args.tree.now c.args.path.now c.stands.ensures (sym c.in-None.ensures.node)
