use Rattle.std.specs.Vec.Iter.{into_iter_items}
use Rattle.zk_front.specs.Remotes.{serving}
use Rattle.zk_front.proofs.Expiring.{Expiring}
use Rattle.zk_front.proofs.request_driver.RequestDriver.expire_all.Given as goal

abbrev pub invariant-loop-session : goal.invariant-loop-session
invariant-loop-session g l = Expiring l.fn.now l.fn.due.items (into_iter_items l.session-iterator) (serving l.fn.self.caller l.fn.self.clients) (serving l.self.caller l.self.clients)
