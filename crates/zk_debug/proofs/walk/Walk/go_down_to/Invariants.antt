use Rattle.std.proofs.Common.{◌≡◌, ◌+◌}
use Rattle.zk_debug.proofs.walk.Walk.go_down_to.Given as goal

abbrev pub invariant-loop : goal.invariant-loop
invariant-loop l = (l.self ≡ record l.fn.self { place = l.self.place }) × (l.self.place + l.counter ≡ l.fn.self.place + l.place)
