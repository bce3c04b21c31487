-- The servers of an ensemble in one process, and their clients. ZooKeeper Programmer's Guide,
-- "ZooKeeper Sessions".
use Rattle.std.specs.Prelude.{◌≡◌, ℕ, ℤ, pos, ◌+◌, ◌==◌, ◌&&◌, ◌-◌, Bool, true, false, not, List, [], ◌∷◌, length, is_some, set, zero, suc, Option, Some, None, if◌then◌else◌}
use Rattle.zab_host.specs.declared.storage.StoreFault.{StoreFault}
use Rattle.zab_host.specs.declared.storage.StoreFault.TheVariants as stores
use Rattle.zk_client_port.specs.declared.client_port.Selection.TheVariants.{Served}
use Rattle.zk_client_service.specs.Ports.{Port, at_server, cut_off, with_new, with_port}
use Rattle.zk_connections.specs.declared.status.Mode.{Mode}
use Rattle.zk_connections.specs.declared.status.Mode.TheVariants as modes
use Rattle.zk_host.specs.WatchedTrees.{WatchedTreeView, after_close}
use Rattle.zk_host.specs.declared.host_fault.ReleaseFault.{ReleaseFault}
use Rattle.zk_host.specs.declared.host_fault.ReleaseFault.TheVariants as releases
use Rattle.zk_host.specs.declared.replica_host.ReplicaHost.{ReplicaHost}
use Rattle.zk_peers.specs.Peers.{is_up_at, place_at, serves}
use Rattle.zk_peers.specs.declared.cut.Cut.{Cut}
use Rattle.zk_peers.specs.declared.peers.Peers.{Peers}
use Rattle.zk_peers.specs.declared.place.Place.{Place}
use Rattle.zk_peers.specs.declared.place.Place.TheVariants.{Up, Down, Failed}
use Rattle.zk_peers.specs.declared.state.PeerState.{PeerState}
use Rattle.zk_peers.specs.declared.state.PeerState.TheVariants as states

-- a server that is down, or has delivered nothing, has no last transaction
abbrev pub last_in : {S : Type 0} → Option (ReplicaHost S) → ℤ
last_in None = pos 0
last_in (Some host) = host.tree.tree.last

abbrev pub mode_of : PeerState → Mode
mode_of states.Leading = modes.Leader
mode_of states.Following = modes.Follower
mode_of states.Looking = modes.Looking
mode_of states.Down = modes.Looking

-- ---- servers that have stopped by themselves

abbrev pub stop_of : ReleaseFault → StoreFault
stop_of (releases.Store fault) = fault
stop_of other = stores.NoMemory

abbrev pub stop_in : Option (Option StoreFault) → Option StoreFault
stop_in None = None
stop_in (Some stop) = stop

abbrev pub stop_at : List (Option StoreFault) → ℕ → Option StoreFault
stop_at stops server = stop_in (at_server stops server)

-- ---- a new connection

-- a server that is up takes connections, until all numbers are used
abbrev pub takes : {S : Type 0} → List (Place S) → List Port → ℕ → ℕ → Bool
takes places ports opened server =
    is_up_at places server && (not (opened == 18446744073709551615) && is_some (at_server ports server))

abbrev pub number_for : Bool → ℕ → Option ℕ
number_for true opened = Some opened
number_for false opened = None

abbrev pub ports_with : Bool → ℕ → ℕ → List Port → List Port
ports_with true server opened ports = with_port server (with_new opened) ports
ports_with false server opened ports = ports

abbrev pub opened_then : Bool → ℕ → ℕ
opened_then true opened = opened + 1
opened_then false opened = opened

-- ---- connections of servers that serve none

-- the clients of the first servers are cut off, but for those of servers that serve
abbrev pub first_unserved : {S : Type 0} → List Cut → List (Place S) → Option ℕ → ℕ → List Port → List Port
first_unserved cuts places leader zero ports = ports
first_unserved cuts places leader (suc servers) ports =
    if serves cuts places leader (servers + 1) then first_unserved cuts places leader servers ports
    else with_port (servers + 1) (cut_off Served) (first_unserved cuts places leader servers ports)

abbrev pub unserved_cut_off : {S : Type 0} → List Cut → List (Place S) → Option ℕ → List Port → List Port
unserved_cut_off cuts places leader ports = first_unserved cuts places leader (length ports) ports

-- no mail waits, and the clients of servers that serve none are cut off
pub record IsSettled {S : Type 0} (peers : Peers S) (ports : List Port) : Type 0 where
  pub mail : peers.posted ≡ []
  pub before : List Port
  pub cut : ports ≡ unserved_cut_off peers.cuts.items peers.places.items peers.leader before

-- ---- the watches of connections that have ended

abbrev pub tree_after : List ℕ → WatchedTreeView → WatchedTreeView
tree_after [] tree = tree
tree_after (number ∷ numbers) tree = tree_after numbers (after_close number tree)

abbrev pub place_after : {S : Type 0} → List ℕ → Place S → Place S
place_after numbers (Up host) = Up (record host { tree = tree_after numbers host.tree })
place_after numbers (Down storage) = Down storage
place_after numbers Failed = Failed

abbrev pub place_set : {S : Type 0} → List ℕ → ℕ → Option (Place S) → List (Place S) → List (Place S)
place_set numbers index None places = places
place_set numbers index (Some place) places = set places index (place_after numbers place)

abbrev pub places_after : {S : Type 0} → List ℕ → ℕ → List (Place S) → List (Place S)
places_after numbers server places = place_set numbers (server - 1) (place_at places server) places

-- ---- the store of a server that does not run

abbrev pub place_with : {S : Type 0} → Option S → Place S → Place S
place_with storage (Up host) = Up host
place_with None other = Failed
place_with (Some storage) other = Down storage

abbrev pub place_put : {S : Type 0} → Option S → ℕ → Option (Place S) → List (Place S) → List (Place S)
place_put storage index None places = places
place_put storage index (Some place) places = set places index (place_with storage place)

abbrev pub places_with : {S : Type 0} → Option S → ℕ → List (Place S) → List (Place S)
places_with storage server places = place_put storage (server - 1) (place_at places server) places
