-- The parts so far stand in front of those that are still read, and each turn takes something.
use Rattle.std.proofs.Common.{◌≡◌, length}
use Rattle.zk_listing.specs.Reading.{behind}
use Rattle.zk_request_syntax.specs.Reading.{parts_in}
use Rattle.zk_request_syntax.proofs.parts.parts.Given as goal

abbrev pub invariant-loop-parts : goal.invariant-loop-parts
invariant-loop-parts l = behind l.parts.items (parts_in l.input.now) ≡ parts_in l.fn.input.now

abbrev pub decreases-loop-parts : goal.decreases-loop-parts
decreases-loop-parts l = length l.input.now
