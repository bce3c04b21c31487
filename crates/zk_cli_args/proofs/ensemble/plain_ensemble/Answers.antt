use Rattle.std.proofs.Common.{Option, None, map, subst}
use Rattle.zk_cli_args.proofs.EnsembleLaws.{has_no_servers}
use Rattle.zk_cli_args.proofs.WordsLaws.{texts}
use Rattle.zk_cli_args.specs.Commands.{values_of}
use Rattle.zk_cli_args.specs.Serving.{ReadsServersOf}
use Rattle.zk_cli_args.specs.declared.serving.Serving.{Serving}
use Rattle.zk_cli_args.proofs.ensemble.plain_ensemble.Goals as goal

pub returns-in-None : goal.returns-in-None
returns-in-None c = has_no_servers None c.args.most c.args.until_eof (texts c.args.words.now) (subst (λ (read : Option Serving). ReadsServersOf (values_of (texts c.args.words.now)) 1 c.args.most read) c.in-None.is c.in_ok-serving.ensures)
