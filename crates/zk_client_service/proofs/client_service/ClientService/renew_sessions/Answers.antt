use Rattle.std.proofs.Common.{◌≡◌, rules, ℤ, to_z, of_z, w64, subst, Option, ◌∙◌, ap, refl}
use Rattle.zk_client_service.specs.Ensembles.{ensemble}
use Rattle.zk_client_port.specs.Listings.{sessions_in}
use Rattle.zk_client_service.specs.Expiries.{leading_host, Renews, RenewsAt}
use Rattle.zk_host.specs.declared.replica_host.ReplicaHost.{ReplicaHost}
use Rattle.zk_client_service.proofs.client_service.ClientService.renew_sessions.Goals as goal

pub returns : goal.returns
returns g c =
    let fits : to_z w64 (of_z w64 c.args.now) ≡ c.args.now = search rules in
    let renews : Renews c.args.now (sessions_in c.in-Some-host.host.now.tree.tree) c.args.self.now.admission c.renew.new.admission =
    subst (λ (now : ℤ). Renews now (sessions_in c.in-Some-host.host.now.tree.tree) c.args.self.now.admission c.renew.new.admission) fits c.renew.ensures in
    record {
      admission =
          subst (λ (found : Option (ReplicaHost g.row.S.Denot)). RenewsAt c.args.now found c.args.self.now.admission c.renew.new.admission)
          (c.in-Some-host.ensures ∙ ap (leading_host c.args.self.now.peers.places.items) c.in-Some.ensures) renews;
      peers = refl;
      rest = (refl, (refl, refl));
    }
