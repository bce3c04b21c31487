-- The transactions so far.
use Rattle.std.proofs.Common.{take}
use Rattle.std.specs.List.{AllByRecursion}
use Rattle.zk_format.specs.Listings.{IsListed, HasCountedAcls}
use Rattle.zk_format.proofs.ranges.txns_are_listed.Given as goal

abbrev pub invariant-loop-txn : goal.invariant-loop-txn
invariant-loop-txn l = AllByRecursion (λ txn. HasCountedAcls txn → IsListed txn) (take l.txn-index l.txns)
