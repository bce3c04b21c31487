use Rattle.std.proofs.Common.{◌≡◌, rules, ℤ, to_z, of_z, w64, subst}
use Rattle.zk_client_service.specs.Ensembles.{ensemble}
use Rattle.zk_client_service.specs.Elections.{Settles}
use Rattle.zk_client_service.specs.Expiries.{RenewsSessions}
use Rattle.zk_client_service.proofs.client_service.ClientService.begin.Goals as goal

pub returns : goal.returns
returns g c =
    let fits : to_z w64 (of_z w64 c.args.now) ≡ c.args.now = search rules in
    record {
      settled = ensemble c.settle.new.self;
      settles = subst (λ (now : ℤ). Settles g.S.Storage.may_recover g.S.Storage.boots now (ensemble c.args.self.now) (ensemble c.settle.new.self)) fits c.in_ok-settle.ensures;
      renews = subst (λ (now : ℤ). RenewsSessions now (ensemble c.settle.new.self) (ensemble c.renew_sessions.new.self)) fits c.renew_sessions.ensures;
    }
