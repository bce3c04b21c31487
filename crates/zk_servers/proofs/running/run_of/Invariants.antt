use Rattle.std.proofs.Common.{◌≡◌, ◌≤◌, ◌+◌, ◌++◌, length, map}
use Rattle.std.specs.Vec.Iter.{into_iter_items}
use Rattle.zk_servers.specs.Running.{all_of, told_by}
use Rattle.zk_servers.proofs.running.run_of.Given as goal

abbrev pub invariant-loop-one : goal.invariant-loop-one
invariant-loop-one g l =
    (l.seats.items ++ map (λ w. w.seat) (into_iter_items l.one-iterator) ≡ map (λ w. w.seat) l.fn.worked.items)
    × (l.receipts.items ++ all_of (told_by (into_iter_items l.one-iterator)) ≡ all_of (told_by l.fn.worked.items))
    × (l.passed.items ++ map (λ w. w.passed) (into_iter_items l.one-iterator) ≡ map (λ w. w.passed) l.fn.worked.items)
    × (length l.seats.items + length (into_iter_items l.one-iterator) ≤ l.seats.cap)
    × (length l.passed.items + length (into_iter_items l.one-iterator) ≤ l.passed.cap)
