use Rattle.std.proofs.Common.{◌≡◌, ◌≤◌, ◌+◌, ◌++◌, length, map}
use Rattle.std.specs.Vec.Iter.{into_iter_items}
use Rattle.zk_servers.proofs.running.workers_of.Given as goal

abbrev pub invariant-loop-seat : goal.invariant-loop-seat
invariant-loop-seat g l =
    (map (λ w. w.seat) l.workers.items ++ into_iter_items l.seat-iterator ≡ l.fn.seats.items)
    × (map (λ w. w.jobs.items) l.workers.items ++ map (λ list. list.items) (into_iter_items l.lists) ≡ map (λ list. list.items) l.fn.jobs.items)
    × (length (into_iter_items l.ends) ≡ length (into_iter_items l.seat-iterator))
    × (length (into_iter_items l.lists) ≡ length (into_iter_items l.seat-iterator))
    × (length l.workers.items + length (into_iter_items l.seat-iterator) ≤ l.workers.cap)
