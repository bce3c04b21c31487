use Rattle.zk_cli_args.proofs.OptionLaws.{stripped}
use Rattle.zk_cli_args.proofs.options.value_in.Goals as goal

pub returns : goal.returns
returns c = stripped _ c.args.prefix.now c.args.word.now c.strip_prefix.result c.strip_prefix.ensures.cases
