-- The writes so far, and those of the remaining parts.
use Rattle.std.proofs.Common.{◌≡◌, ◌+◌, ◌≤◌, drop, filter, length}
use Rattle.zk_sessions.specs.Writes.{is_write}
use Rattle.zk_sessions.proofs.writes.writes_in.Given as goal

abbrev pub invariant-loop-part : goal.invariant-loop-part
invariant-loop-part l = record { sums : l.count + length (filter is_write (drop l.part-index l.fn.parts)) ≡ length (filter is_write l.fn.parts); few : l.count ≤ l.part-index }
