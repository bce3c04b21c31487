use Rattle.zk_headline_laws.proofs.Showing.{answered_are_results}
use Rattle.zk_headline_laws.proofs.laws.answers_have_the_tables_results.Goals as goal

pub returns : goal.returns
returns c = answered_are_results
