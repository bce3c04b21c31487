use Rattle.std.proofs.Common.{nat_eq, ap, ◌∙◌}
use Rattle.std.specs.List.{starts_with}
use Rattle.zk_replay.proofs.draft_nodes.starts.Goals as goal

pub returns : goal.returns
returns c = c.text_starts.ensures ∙ ap (λ t. starts_with nat_eq t c.args.prefix.now) c.text.ensures.text
