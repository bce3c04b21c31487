-- The servers of an ensemble, with their clients. ZooKeeper Administrator's Guide, `clientPort`.
use Rattle.std.specs.Prelude.{◌≡◌, ℕ, ◌-◌, ◌==◌, ℤ, List, length, set, Option, Some, if◌then◌else◌}
use Rattle.zab_host.specs.declared.storage.StoreFault.{StoreFault}
use Rattle.zk_client_port.specs.declared.admission.Admission.{Admission}
use Rattle.zk_client_port.specs.declared.client_port.Selection.TheVariants.{All}
use Rattle.zk_client_port.specs.declared.execution.Moment.{Moment}
use Rattle.zk_client_service.specs.Ports.{Port, connections_at, cut_off, ports_of, with_port}
use Rattle.zk_client_service.specs.Services.{mode_of}
use Rattle.zk_client_service.specs.declared.client_service.ClientService.{ClientService}
use Rattle.zk_peers.specs.Peers.{state_of}
use Rattle.zk_peers.specs.declared.peers.Peers.{Peers}

pub record Ensemble (S : Type 0) : Type 0 where
  pub peers : Peers S
  pub ports : List Port
  pub admission : Admission
  -- how many connections were opened
  pub opened : ℕ
  -- why each server has stopped by itself, until that is taken
  pub stops : List (Option StoreFault)

abbrev pub ensemble : {S : Type 0} → ClientService S → Ensemble S
ensemble it = record {
  peers = it.peers;
  ports = ports_of it.ports.items;
  admission = it.admission;
  opened = it.opened;
  stops = it.stops.items;
}

-- all but the servers and their connections is as it was
pub record SameBeside {S : Type 0} (old new : Ensemble S) : Type 0 where
  pub admission : new.admission ≡ old.admission
  pub opened : new.opened ≡ old.opened
  pub stops : new.stops ≡ old.stops

abbrev pub moment_at : {S : Type 0} → ℕ → ℤ → Ensemble S → Moment
moment_at server now it = record {
  server = server;
  now = now;
  mode = mode_of (state_of it.peers.cuts.items it.peers.places.items it.peers.leader server);
  connections = length (connections_at it.ports server);
}

-- ---- a server that stops

abbrev pub server_cut_off : ℕ → List Port → List Port
server_cut_off server ports = with_port server (cut_off All) ports

abbrev pub stopped_with : ℕ → StoreFault → List (Option StoreFault) → List (Option StoreFault)
stopped_with server fault stops = if server == 0 then stops else set stops (server - 1) (Some fault)
