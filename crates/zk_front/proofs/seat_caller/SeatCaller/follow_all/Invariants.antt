use Rattle.std.proofs.Common.{◌-◌, ◌≤◌}
use Rattle.zk_front.specs.Calling.{Calls}
use Rattle.zk_front.specs.Starting.{followings}
use Rattle.zk_front.proofs.seat_caller.SeatCaller.follow_all.Given as goal

abbrev pub invariant-loop-others : goal.invariant-loop-others
invariant-loop-others g l = record {
  calls : Calls l.fn.self (followings (l.others - 1)) l.self;
  few : l.others - 1 ≤ l.servers - 1;
}
