use Rattle.zk_mend.proofs.Sparing.{none_seen}
use Rattle.zk_mend.proofs.mended.mend_body.Goals as goal

pub returns-in_err-walk-clause-last : goal.returns-in_err-walk-clause-last
returns-in_err-walk-clause-last g c = none_seen g.R.Read.remaining c.args.source.now c.args.held.now.items
