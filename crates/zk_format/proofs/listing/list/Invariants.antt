-- The lines so far.
use Rattle.std.proofs.Common.{◌≡◌, take}
use Rattle.std.specs.String.{string_bytes}
use Rattle.zk_format.specs.Listings.{listing_of}
use Rattle.zk_format.proofs.listing.list.Given as goal

abbrev pub invariant-loop-txn : goal.invariant-loop-txn
invariant-loop-txn l = string_bytes l.text ≡ listing_of (take l.txn-index l.txns)
