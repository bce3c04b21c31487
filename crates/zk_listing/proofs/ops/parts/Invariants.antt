-- The parts so far precede those still to be read, and each iteration consumes some bytes.
use Rattle.std.proofs.Common.{◌≡◌, length}
use Rattle.zk_listing.specs.Reading.{parts_in, behind}
use Rattle.zk_listing.proofs.ops.parts.Given as goal

abbrev pub invariant-loop-parts : goal.invariant-loop-parts
invariant-loop-parts l = behind l.parts.items (parts_in l.input.now) ≡ parts_in l.fn.input.now

abbrev pub decreases-loop-parts : goal.decreases-loop-parts
decreases-loop-parts l = length l.input.now
