use Rattle.zk_cli_args.proofs.EnsembleLaws.{from_words}
use Rattle.zk_cli_args.proofs.ensemble.ensemble_of.Goals as goal

pub returns : goal.returns
returns c = from_words c.args.words.now c.ensemble_named.result c.in-len2-up.len_at_least c.ensemble_named.ensures
