use Rattle.std.proofs.Common.{◌≡◌, rules, ℤ, to_z, of_z, w64, subst, refl}
use Rattle.zk_client_service.proofs.Turning.{closes_at}
use Rattle.zk_client_service.specs.Ensembles.{Ensemble, ensemble}
use Rattle.zk_client_service.specs.Expiries.{touching, ClosesUp}
use Rattle.zk_peers.specs.Hosts.{setting_for}
use Rattle.zk_peers.specs.Lending.{with_place}
use Rattle.zk_client_service.proofs.client_service.ClientService.close_sessions.Goals as goal

pub returns : goal.returns
returns g c =
    let fits : to_z w64 (of_z w64 c.args.now) ≡ c.args.now = search rules in
    let after : Ensemble g.row.S.Denot = record {
      peers = with_place c.args.self.now.peers c.args.leader c.close_in.new.place;
      ports = (ensemble c.args.self.now).ports;
      admission = c.touch_all.new.admission;
      opened = c.args.self.now.opened;
      stops = c.args.self.now.stops.items;
    } in
    closes_at c.args.leader c.args.now c.args.sessions.now (ensemble c.args.self.now) after c.in-Some.place.now c.close_in.new.place c.quorums-quorums.result.servers c.in-Some.ensures.value c.quorums-quorums.ensures (subst (λ (now : ℤ). ClosesUp (setting_for c.quorums-quorums.result.servers) now c.args.sessions.now c.in-Some.place.now c.close_in.new.place) fits c.close_in.ensures) refl refl
    (record { cuts = refl; posted = refl; arriving = refl }) (subst (λ (now : ℤ). c.touch_all.new.admission ≡ touching now c.args.sessions.now c.args.self.now.admission) fits c.touch_all.ensures) (refl, (refl, refl))
