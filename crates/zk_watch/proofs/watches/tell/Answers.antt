use Rattle.std.proofs.Common.{◌++◌, map, filter, ap, ◌∙◌}
use Rattle.zk_watch.specs.Watching.{waits_for, told}
use Rattle.zk_watch.proofs.Ranges.{told_there}
use Rattle.zk_watch.proofs.watches.tell.Goals as goal

pub loop-watch-init : goal.loop-watch-init
loop-watch-init c = ap (λ l. c.args.told.now.items ++ map (told c.args.change.now) (filter (waits_for c.args.change.now.kind) l)) c.watches_at-watch-items.ensures ∙ ap (λ l. c.args.told.now.items ++ l) (told_there c.args.change.now c.args.watches.now)
