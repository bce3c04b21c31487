use Rattle.std.proofs.Common.{◌≡◌, ◌∙◌, rules, ℕ, ℤ, List, length, None, to_z, of_z, w64, subst, ap, refl}
use Rattle.zab_host.specs.declared.storage.StoreFault.{StoreFault}
use Rattle.zk_client_port.specs.declared.admission.Admission.{Admission}
use Rattle.zk_client_service.specs.Elections.{copies, new_port, ElectsLeader}
use Rattle.zk_client_service.specs.Ensembles.{Ensemble, ensemble}
use Rattle.zk_client_service.specs.Ports.{ports_of}
use Rattle.zk_connections.specs.declared.session.Session.{Session}
use Rattle.zk_client_service.proofs.client_service.ClientService.start.Goals as goal

pub returns-clause-starts : goal.returns-clause-starts
returns-clause-starts g c =
    let fits : to_z w64 (of_z w64 c.args.now) ≡ c.args.now = search rules in
    let servers : c.len-servers.result ≡ length c.args.storages.items = search rules in
    let between : Ensemble g.row.S.Denot = record {
      peers = c.in_ok-peers.peers;
      ports = ports_of c.in_ok-ports.ports.items;
      admission = record { sessions = c.new.result; secret = c.args.secret };
      opened = 0;
      stops = c.in_ok-stops.stops.items;
    } in
    record {
      between = between;
      starts = c.in_ok-peers.ensures.started;
      fresh = record {
        ports = c.in_ok-ports.ensures ∙ ap (λ (count : ℕ). copies count new_port) servers;
        admission = ap (λ (its : List Session). record { sessions = its; secret = c.args.secret }) c.new.ensures;
        opened = refl;
        stops = c.in_ok-stops.ensures ∙ ap (λ (count : ℕ). copies count None) servers;
      };
      elects = subst (λ (now : ℤ). ElectsLeader g.S.Storage.may_recover g.S.Storage.boots now between (ensemble c.elect.new.self)) fits c.in_ok-elect.ensures;
    }
