use Rattle.zk_headline_laws.proofs.ReadWatches.{reads_enable, others_hear, unwatched_stay}
use Rattle.zk_headline_laws.proofs.laws.reads_enable_events.Goals as goal

pub returns-clause-enabled : goal.returns-clause-enabled
returns-clause-enabled c = reads_enable

pub returns-clause-others : goal.returns-clause-others
returns-clause-others c = others_hear

pub returns-clause-unwatched : goal.returns-clause-unwatched
returns-clause-unwatched c = unwatched_stay
