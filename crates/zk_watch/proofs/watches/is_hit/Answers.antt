use Rattle.std.proofs.Common.{ap, ◌∙◌}
use Rattle.std.specs.List.{list_any}
use Rattle.zk_watch.specs.Watching.{waits_for}
use Rattle.zk_watch.proofs.Ranges.{hit_there}
use Rattle.zk_watch.proofs.watches.is_hit.Goals as goal

pub returns : goal.returns
returns c = c.is_awaited.ensures ∙ ap (list_any (waits_for c.args.change.now.kind)) c.watches_at.ensures ∙ hit_there c.args.change.now c.args.watches.now
