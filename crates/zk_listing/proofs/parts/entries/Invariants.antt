-- The entries so far precede those still to be read.
use Rattle.std.proofs.Common.{◌≡◌, ◌-◌}
use Rattle.zk_listing.specs.Reading.{many_at, entry_at, behind}
use Rattle.zk_listing.proofs.parts.entries.Given as goal

abbrev pub invariant-loop : goal.invariant-loop
invariant-loop l = behind l.entries.items (many_at entry_at (l.count - l.counter) l.input.now) ≡ many_at entry_at l.fn.count l.fn.input.now
