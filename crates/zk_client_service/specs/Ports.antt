-- The ports of an ensemble's servers: the connections of each, and their outstanding requests.
-- ZooKeeper Administrator's Guide, `clientPort`.
use Rattle.std.specs.Prelude.{ℕ, ◌-◌, ◌==◌, zero, suc, List, [], ◌∷◌, ◌++◌, map, slice_get, Option, Some, None, if◌then◌else◌}
use Rattle.zk_client_port.specs.Ports.{cut_off_if, numbers_over, without_over, without_requests}
use Rattle.zk_client_port.specs.declared.client_port.ClientPort.{ClientPort}
use Rattle.zk_client_port.specs.declared.client_port.Selection.{Selection}
use Rattle.zk_client_port.specs.declared.client_port.Selection.TheVariants.{Number, All}
use Rattle.zk_client_port.specs.declared.expected.Expected.{Expected}
use Rattle.zk_connections.specs.Connections.{new_connection}
use Rattle.zk_connections.specs.declared.connection.Connection.{Connection}
use Rattle.zk_hub.specs.declared.outcome.Outcome.{Outcome}
use Rattle.zk_hub.specs.declared.request.Outstanding.{Outstanding}

pub record Port : Type 0 where
  pub connections : List Connection
  pub hub : List (Outstanding Expected Outcome)

abbrev pub port_of : ClientPort → Port
port_of it = record { connections = it.connections.items; hub = it.hub }

abbrev pub ports_of : List ClientPort → List Port
ports_of its = map port_of its

-- ---- one server's

-- servers are numbered from 1
abbrev pub at_server : {X : Type 0} → List X → ℕ → Option X
at_server its server = if server == 0 then None else slice_get its (server - 1)

abbrev pub connections_in : Option Port → List Connection
connections_in None = []
connections_in (Some it) = it.connections

abbrev pub connections_at : List Port → ℕ → List Connection
connections_at ports server = connections_in (at_server ports server)

-- the port at a place is changed; the others stay
abbrev pub changed_at : ℕ → (Port → Port) → List Port → List Port
changed_at place change [] = []
changed_at zero change (it ∷ its) = change it ∷ its
changed_at (suc place) change (it ∷ its) = it ∷ changed_at place change its

abbrev pub with_port : ℕ → (Port → Port) → List Port → List Port
with_port server change ports = if server == 0 then ports else changed_at (server - 1) change ports

-- ---- connections

abbrev pub with_new : ℕ → Port → Port
with_new number it = record it { connections = it.connections ++ new_connection number ∷ [] }

abbrev pub cut_off : Selection → Port → Port
cut_off selection it = record it { connections = map (cut_off_if selection) it.connections }

-- a connection may be at any server
abbrev pub without_number : ℕ → List Port → List Port
without_number number ports = map (cut_off (Number number)) ports

abbrev pub all_cut_off : List Port → List Port
all_cut_off ports = map (cut_off All) ports

-- ---- connections that are over

abbrev pub over_at : List Port → ℕ → List ℕ
over_at ports server = numbers_over (connections_at ports server)

-- they are removed, with their outstanding requests
abbrev pub without_ended : Port → Port
without_ended it = record { connections = without_over it.connections; hub = without_requests (numbers_over it.connections) it.hub }
