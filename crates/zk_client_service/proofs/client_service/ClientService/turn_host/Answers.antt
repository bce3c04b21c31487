use Rattle.std.proofs.Common.{◌≡◌, rules, ℤ, to_z, of_z, w64, subst, refl, set}
use Rattle.zk_client_service.proofs.Turning.{turns_host}
use Rattle.zk_client_service.specs.Ensembles.{Ensemble, ensemble, moment_at}
use Rattle.zk_client_service.specs.Ports.{ports_of}
use Rattle.zk_peers.specs.Lending.{with_place}
use Rattle.zk_client_service.proofs.client_service.ClientService.turn_host.Goals as goal

pub returns : goal.returns
returns g c =
    let fits : to_z w64 (of_z w64 c.args.now) ≡ c.args.now = search rules in
    let after : Ensemble g.row.S.Denot = record {
      peers = with_place c.args.self.now.peers c.args.server c.turn_place.new.place;
      ports = ports_of (set c.args.self.now.ports.items c.args.index c.turn_place.new.port);
      admission = c.turn_place.new.admission;
      opened = c.args.self.now.opened;
      stops = c.args.self.now.stops.items;
    } in
    turns_host c.args.server c.args.index c.args.now (ensemble c.args.self.now) after c.in-Some.place.now c.turn_place.new.place c.args.self.now.ports.items c.index_mut.result.now c.turn_place.new.port
    c.moment-moment.result c.quorums-quorums.result.servers c.in-Some.ensures.value (subst (λ (now : ℤ). c.moment-moment.result ≡ moment_at c.args.server now (ensemble c.args.self.now)) fits c.moment-moment.ensures) c.quorums-quorums.ensures refl c.requires.within c.requires.above c.requires.is (search rules) refl refl refl
    (record { cuts = refl; posted = refl; arriving = refl }) (refl, refl) c.turn_place.result c.turn_place.ensures
