use Rattle.std.proofs.Common.{◌≡◌, ◌≤◌, All, length, map}
use Rattle.zk_views.specs.Catching.{AreOfOneView}
use Rattle.zk_views.proofs.published_view.unread_views.Given as goal

abbrev pub invariant-loop : goal.invariant-loop
invariant-loop l =
    (length l.readers.items ≡ l.counter)
    × All (AreOfOneView 0) (map (λ list. list.items) l.readers.items)
    × (l.count ≤ l.readers.cap)
