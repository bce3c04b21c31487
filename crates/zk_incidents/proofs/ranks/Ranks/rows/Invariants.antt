-- The rows so far, and those of the remaining entries.
use Rattle.std.proofs.Common.{◌≡◌, ◌++◌, map}
use Rattle.zk_incidents.proofs.Ranked.{ranked}
use Rattle.zk_incidents.specs.Counts.{rows_of}
use Rattle.zk_incidents.proofs.ranks.Ranks.rows.Given as goal

abbrev pub invariant-loop-rank : goal.invariant-loop-rank
invariant-loop-rank l = map (λ row. (row.0.now, row.1)) l.rows.items ++ rows_of (map ranked l.rank-iterator) ≡ rows_of (map ranked l.initial.rank-iterator)
