use Rattle.std.proofs.Common.{◌≡◌, ◌≤◌, All, length, map}
use Rattle.zk_views.specs.Catching.{IsUnpublished, AreOfOneView}
use Rattle.zk_views.proofs.published_view.read_views.Given as goal

abbrev pub invariant-loop : goal.invariant-loop
invariant-loop g l =
    All IsUnpublished l.views.items
    × (length l.all.items ≡ l.counter)
    × All (AreOfOneView l.readers) (map (λ list. list.items) l.all.items)
    × (length l.views.items ≡ l.counter)
    × (l.count ≤ l.views.cap)
    × (l.count ≤ l.all.cap)
