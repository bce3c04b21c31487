use Rattle.zk_front.specs.Calling.{Calls}
use Rattle.zk_front.specs.Starting.{arrivals}
use Rattle.zk_front.proofs.seat_caller.SeatCaller.arrive_all.Given as goal

abbrev pub invariant-loop-arrived : goal.invariant-loop-arrived
invariant-loop-arrived g l = Calls l.fn.self (arrivals l.arrived) l.self
