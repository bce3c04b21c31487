use Rattle.std.proofs.Common.{lit<}
use Rattle.std.proofs.lemmas.Str.Pattern.{strip_prefix_char}
use Rattle.zk_commands.proofs.Pasts.{past_zero_is}
use Rattle.zk_commands.proofs.shorthand.past_zero.Goals as goal

pub returns : goal.returns
returns c = past_zero_is c.args.text.now c.strip_prefix.result (strip_prefix_char 48 c.args.text.now c.strip_prefix.result c.strip_prefix.ensures.cases (lit< tt))
