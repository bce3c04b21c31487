use Rattle.std.proofs.Common.{rules, ◌∙◌, ap, take}
use Rattle.zk_host.specs.WatchedTrees.{after_entries}
use Rattle.zk_host.proofs.Delivering.{some_more}
use Rattle.zk_host.proofs.watched_tree.WatchedTree.deliver_each.Goals as goal

pub loop-done-preserved : goal.loop-done-preserved
loop-done-preserved c =
    let then = c.in_ok-deliver_some.ensures.delivered ∙ ap (after_entries c.loop-done.self) (c.first-some.ensures ∙ ap (take c.min-many.result) c.behind.ensures) in
    record {
      within = search rules;
      delivered = some_more c.loop-done.done c.min-many.result c.args.entries.now c.loop-done.self c.deliver_some.new.self (after_entries c.args.self.now c.args.entries.now) then c.loop-done.invariant.delivered;
    }
