use Rattle.std.proofs.Common.{◌≡◌, drop}
use Rattle.std.specs.List.{find}
use Rattle.zk_debug.specs.Breakpoints.{is_met}
use Rattle.zk_debug.proofs.breakpoints.Breakpoints.lowest_met.Given as goal

abbrev pub invariant-loop-at : goal.invariant-loop-at
invariant-loop-at l =
    find (λ e. is_met l.txn l.applied.result.err l.applied.changes.items e.1) (drop l.at l.self-inside.standing.entries) ≡ find (λ e. is_met l.txn l.applied.result.err l.applied.changes.items e.1) l.self-inside.standing.entries
