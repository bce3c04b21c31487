use Rattle.std.proofs.Common.{lit<}
use Rattle.std.proofs.lemmas.Str.Pattern.{strip_prefix_char}
use Rattle.zk_commands.proofs.Pasts.{past_x_is}
use Rattle.zk_commands.proofs.shorthand.past_x.Goals as goal

pub returns : goal.returns
returns c = past_x_is c.args.text.now c.strip_prefix.result (strip_prefix_char 120 c.args.text.now c.strip_prefix.result c.strip_prefix.ensures.cases (lit< tt))
