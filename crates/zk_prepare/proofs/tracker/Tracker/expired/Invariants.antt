use Rattle.std.proofs.Common.{◌≡◌, ◌++◌, drop, map, filter}
use Rattle.std.specs.Int.{w64, cast_signed}
use Rattle.zk_prepare.specs.Deadlines.{has_come, expired_at}
use Rattle.zk_prepare.proofs.tracker.Tracker.expired.Given as goal

abbrev pub invariant-loop-entry : goal.invariant-loop-entry
invariant-loop-entry l = l.sessions.items ++ map (λ e. cast_signed w64 e.0) (filter (has_come l.now) (drop l.entry-index l.entry-items)) ≡ expired_at l.self l.now
