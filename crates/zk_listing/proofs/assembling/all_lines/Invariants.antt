-- The text starts with the listing of the transactions so far, and each iteration consumes a line.
use Rattle.std.proofs.Common.{length}
use Rattle.zk_listing.specs.Promises.{BeginsWithListing}
use Rattle.zk_listing.proofs.assembling.all_lines.Given as goal

abbrev pub invariant-lines : goal.invariant-lines
invariant-lines l = BeginsWithListing l.fn.input.now l.txns.items l.input.now

abbrev pub decreases-lines : goal.decreases-lines
decreases-lines l = length l.input.now
