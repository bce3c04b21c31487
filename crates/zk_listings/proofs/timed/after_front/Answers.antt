use Rattle.zk_listings.proofs.Finished.{fronted}
use Rattle.zk_listings.proofs.timed.after_front.Goals as goal

pub returns : goal.returns
returns c = fronted _ c.args.front.now c.args.text.now c.strip_prefix.result c.strip_prefix.ensures.cases
