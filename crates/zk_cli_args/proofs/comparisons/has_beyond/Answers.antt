use Rattle.std.proofs.Common.{◌∙◌}
use Rattle.zk_cli_args.proofs.ComparisonsLaws.{beyond_in}
use Rattle.zk_cli_args.proofs.comparisons.has_beyond.Goals as goal

pub returns : goal.returns
returns c = c.has_any.ensures ∙ beyond_in c.args.logs.now c.args.count
