use Rattle.zk_cli_args.proofs.ServingLaws.{from_words}
use Rattle.zk_cli_args.proofs.serving.serving_of.Goals as goal

pub returns : goal.returns
returns c = from_words c.args.words.now c.serving_named.result c.in-len2-up.len_at_least c.serving_named.ensures
