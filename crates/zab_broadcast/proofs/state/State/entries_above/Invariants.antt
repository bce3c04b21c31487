use Rattle.std.proofs.Common.{◌≡◌, ◌++◌, drop}
use Rattle.std.specs.List.{AllByRecursion}
use Rattle.zab_epoch.specs.Shortness.{IsShort}
use Rattle.zab_broadcast.proofs.state.State.entries_above.Given as goal

abbrev pub invariant-loop-index : goal.invariant-loop-index
invariant-loop-index l = (l.entries.items ++ drop l.index l.history ≡ drop l.above l.history) × AllByRecursion IsShort l.entries.items
