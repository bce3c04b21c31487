-- The characters so far precede those still to be read, and each iteration consumes some bytes.
use Rattle.std.proofs.Common.{◌≡◌, length}
use Rattle.std.specs.String.{string_bytes}
use Rattle.zk_listing.specs.Reading.{inside, behind}
use Rattle.zk_listing.proofs.quoting.inside.Given as goal

abbrev pub invariant-loop-text : goal.invariant-loop-text
invariant-loop-text l = behind (string_bytes l.text) (inside l.input.now) ≡ inside l.fn.input.now

abbrev pub decreases-loop-text : goal.decreases-loop-text
decreases-loop-text l = length l.input.now
