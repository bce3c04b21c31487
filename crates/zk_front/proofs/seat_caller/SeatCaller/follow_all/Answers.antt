use Rattle.std.proofs.Common.{◌≡◌, ◌+◌, ◌-◌, ◌≤◌, ℕ, refl, subst, arith, rules}
use Rattle.zk_front.specs.Calling.{Calling, Calls}
use Rattle.zk_front.specs.Starting.{followings}
use Rattle.zk_front.proofs.Calling.{calls_none}
use Rattle.zk_front.proofs.Beginning.{followed}
use Rattle.zk_front.proofs.seat_caller.SeatCaller.follow_all.Goals as goal

pub loop-others-init : goal.loop-others-init
loop-others-init g c = record {
  calls = calls_none c.args.self.now c.args.self.now refl refl;
  few = omega arith;
}

pub loop-others-preserved : goal.loop-others-preserved
loop-others-preserved g c = record {
  calls = followed c.args.self.now c.loop-others.self c.follow.new.self c.loop-others.others c.loop-others.auto.others c.loop-others.invariant.calls c.in_ok-follow.ensures;
  few = omega (arith, c.loop-others-test.true);
}

pub returns : goal.returns
returns g c =
    let same : c.loop-others.others - 1 ≡ c.args.servers - 1 = omega (arith, c.loop-others-test.false, c.loop-others.invariant.few) in
    subst (λ (n : ℕ). Calls c.args.self.now (followings n) c.loop-others.self) same c.loop-others.invariant.calls
