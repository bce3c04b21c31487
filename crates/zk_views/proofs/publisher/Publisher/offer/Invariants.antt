-- What was offered before, and the first of those that come now.
use Rattle.std.proofs.Common.{◌≡◌, ◌++◌, take}
use Rattle.zk_views.proofs.publisher.Publisher.offer.Given as goal

abbrev pub invariant-loop-txn : goal.invariant-loop-txn
invariant-loop-txn l = (l.self.published ≡ l.fn.self.published) × (l.self.offered ≡ l.fn.self.offered ++ take l.txn-index l.more)
