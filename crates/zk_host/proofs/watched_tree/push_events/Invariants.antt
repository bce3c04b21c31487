use Rattle.std.proofs.Common.{◌≡◌, ◌++◌, map}
use Rattle.std.specs.Vec.Iter.{into_iter_items}
use Rattle.zk_host.specs.declared.news.News.TheVariants.{Event}
use Rattle.zk_host.proofs.watched_tree.push_events.Given as goal

abbrev pub invariant-loop-event : goal.invariant-loop-event
invariant-loop-event l = l.news.items ++ map Event (into_iter_items l.event-iterator) ≡ l.fn.news.items ++ map Event l.fn.fired.items
