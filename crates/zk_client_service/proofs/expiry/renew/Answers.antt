use Rattle.std.proofs.Common.{◌≡◌, rules, ℕ, ℤ, List, OnOk, to_z, of_z, w64, subst}
use Rattle.zk_client_port.specs.Sessions.{adopted, renewed}
use Rattle.zk_client_service.proofs.Expiring.{renews}
use Rattle.zk_client_service.specs.Expiries.{Renews}
use Rattle.zk_client_service.proofs.expiry.renew.Goals as goal

pub returns : goal.returns
returns g c =
    let fits : to_z w64 (of_z w64 c.args.now) ≡ c.args.now = search rules in
    subst (λ (known : List (ℕ × ℤ)). Renews c.args.now known c.args.admission.now c.renew.new.self) c.sessions_of-open.ensures
    (renews c.args.now c.sessions_of-open.result.now c.args.admission.now c.adopt.new.self c.renew.new.self c.adopt.result
    (subst (λ (now : ℤ). OnOk c.adopt.result (c.adopt.new.self ≡ record c.args.admission.now { sessions = adopted now c.sessions_of-open.result.now c.args.admission.now.sessions })) fits c.adopt.ensures)
    (subst (λ (now : ℤ). c.renew.new.self ≡ record c.adopt.new.self { sessions = renewed now c.sessions_of-open.result.now c.adopt.new.self.sessions }) fits c.renew.ensures))
