use Rattle.std.proofs.Common.{◌≡◌, ◌+◌, ◌≤◌, refl, arith, rules}
use Rattle.zk_front.specs.Calling.{Calling, Calls}
use Rattle.zk_front.specs.Starting.{Arrives, arrivals}
use Rattle.zk_front.proofs.Calling.{calls_none}
use Rattle.zk_front.proofs.Beginning.{arrived_more}
use Rattle.zk_front.proofs.seat_caller.SeatCaller.arrive_all.Goals as goal

pub loop-arrived-init : goal.loop-arrived-init
loop-arrived-init g c = calls_none c.args.self.now c.args.self.now refl refl

pub loop-arrived-preserved : goal.loop-arrived-preserved
loop-arrived-preserved g c = arrived_more c.args.self.now c.loop-arrived.self c.arrive.new.self c.loop-arrived.arrived c.loop-arrived.invariant c.in_ok-arrive.ensures
