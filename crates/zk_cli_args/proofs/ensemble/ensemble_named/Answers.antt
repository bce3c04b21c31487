use Rattle.std.proofs.Common.{rules}
use Rattle.zk_cli_args.proofs.EnsembleLaws.{if_named}
use Rattle.zk_cli_args.proofs.WordsLaws.{texts}
use Rattle.zk_cli_args.proofs.ensemble.ensemble_named.Goals as goal

pub returns : goal.returns
returns c = if_named c.args.name.now (texts c.args.words.now) c.ensemble_behind.result (search rules) c.ensemble_behind.ensures
