use Rattle.std.proofs.Common.{◌≡◌, rules, ℤ, to_z, of_z, w64, subst, List, ◌∙◌, sym}
use Rattle.zk_client_service.specs.Ensembles.{ensemble}
use Rattle.zk_client_service.specs.Expiries.{adopting, ClosesAt}
use Rattle.zk_connections.specs.Sessions.{expired_at}
use Rattle.zk_client_service.proofs.client_service.ClientService.expire.Goals as goal

pub returns-clause-led : goal.returns-clause-led
returns-clause-led g c = λ led.
    let fits : to_z w64 (of_z w64 c.args.now) ≡ c.args.now = search rules in
    let knows : c.adopt.new.admission ≡ adopting c.args.now c.in-Some-host.host.now c.args.self.now.admission =
    subst (λ (now : ℤ). c.adopt.new.admission ≡ adopting now c.in-Some-host.host.now c.args.self.now.admission) fits c.in_ok-adopt.ensures in
    let expired : c.deref.result.now ≡ expired_at c.args.now c.adopt.new.admission.sessions =
    c.deref.ensures.value ∙ subst (λ (now : ℤ). c.in_ok-expired.expired.items ≡ expired_at now c.adopt.new.admission.sessions) fits c.in_ok-expired.ensures in
    let closes : ClosesAt c.in-Some.leader c.args.now c.deref.result.now (ensemble (record c.args.self.now { admission = c.adopt.new.admission })) (ensemble c.close_sessions.new.self) =
    subst (λ (now : ℤ). ClosesAt c.in-Some.leader now c.deref.result.now (ensemble (record c.args.self.now { admission = c.adopt.new.admission })) (ensemble c.close_sessions.new.self)) fits c.close_sessions.ensures in
    record {
      leader = c.in-Some.leader;
      leader_is = c.in-Some.ensures.leader;
      known = c.adopt.new.admission;
      adopts = record { host = c.in-Some-host.host.now; host_is = sym c.in-Some-host.ensures; knows = knows };
      closes = subst (λ (sessions : List ℤ). ClosesAt c.in-Some.leader c.args.now sessions (ensemble (record c.args.self.now { admission = c.adopt.new.admission })) (ensemble c.close_sessions.new.self)) expired closes;
    }
