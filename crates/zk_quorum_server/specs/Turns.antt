-- A turn of a server that runs: what its peers have sent, what its election decides, and what its
-- clients ask. All is stored before anything is sent or written.
-- ZooKeeper Programmer's Guide, "Consistency Guarantees".
use Rattle.std.specs.Prelude.{◌≡◌, ◌≤◌, ℕ, ℤ, true, List, [], ◌∷◌, length, map, if◌then◌else◌}
use Rattle.zab_broadcast.specs.Rules.{is_serving}
use Rattle.zab_broadcast.specs.declared.syncs.Caught.{Caught}
use Rattle.zab_epoch.specs.declared.message.Message.{Message}
use Rattle.zab_epoch.specs.declared.role.Role.{Role}
use Rattle.zab_epoch.specs.declared.role.Role.TheVariants.{Broadcast, Following}
use Rattle.zab_epoch.specs.declared.stable.Stable.{Stable}
use Rattle.zab_host.specs.Hosts.{Input}
use Rattle.zab_host.specs.Tags.{Request}
use Rattle.zk_client_port.specs.Ports.{cut_off_if}
use Rattle.zk_client_port.specs.Turns.{Server, server, ServesFirst, WritesReleased}
use Rattle.zk_client_port.specs.declared.client_port.Selection.TheVariants as selections
use Rattle.zk_client_port.specs.declared.execution.Moment.{Moment}
use Rattle.zk_connections.specs.Connections.{most_work}
use Rattle.zk_connections.specs.declared.connection.Connection.{Connection}
use Rattle.zk_connections.specs.declared.status.Mode.{Mode}
use Rattle.zk_connections.specs.declared.status.Mode.TheVariants.{Leader, Follower, Looking}
use Rattle.zk_host.specs.declared.replica_host.ReplicaHost.{ReplicaHost}
use Rattle.zk_peer_links.specs.declared.arrival.Arrival.{Arrival}
use Rattle.zk_requests.specs.declared.call.Call.{Call}
use Rattle.zk_server.specs.Deeds.{profile_for, setting_for, HearsAll}
use Rattle.zk_server.specs.Elections.{ElectionView, after_arrivals}
use Rattle.zk_server.specs.Mail.{brought_on, mail_for}
use Rattle.zk_server.specs.Sites.{IsReady}
use Rattle.zk_server.specs.Turns.{Decides}
use Rattle.zk_server.specs.declared.member.Member.{Member}
use Rattle.zk_server_laws.specs.Turns.{Turn, TurnsTo, StopsWith}

-- ---- clients

-- a server that serves no clients has no leader
abbrev pub mode_of : Role → Mode
mode_of Broadcast = Leader
mode_of (Following leader true) = Follower
mode_of role = Looking

-- a server without a leader closes its clients' connections
abbrev pub unserved : {S : Type 0} → ReplicaHost S → List Connection → List Connection
unserved host connections = if is_serving host.host.state.peer.role then connections else map (cut_off_if selections.Served) connections

-- a connection begins its turn: as much of it may be taken as in any
abbrev pub begun : Connection → Connection
begun it = record it { work = most_work }

abbrev pub at_turn : {S : Type 0} → Server S → Server S
at_turn it = server it.host it.hub (map begun (unserved it.host it.connections)) it.admission

abbrev pub moment_of : {S : Type 0} → Member → ℤ → Server S → Moment
moment_of me now it = record { server = me.number; now = now; mode = mode_of it.host.host.state.peer.role; connections = length it.connections }

-- a connection whose session another has got is cut off
abbrev pub without_numbers : List ℕ → List Connection → List Connection
without_numbers [] connections = connections
without_numbers (number ∷ numbers) connections = without_numbers numbers (map (cut_off_if (selections.Number number)) connections)

-- what the clients have sent is executed, connection by connection
abbrev pub Serves : {S : Type 0} → Member → ℤ → Server S → Server S → Type 0
Serves me now old new = ServesFirst (setting_for me.servers) (moment_of me now old) (length old.connections) old new

abbrev pub ServesClients : {S : Type 0} → Member → ℤ → Server S → Server S → Type 0
ServesClients me now old new = Serves me now (at_turn old) new

-- what the host has delivered is written
pub record WritesAll {S : Type 0} (now : ℤ) (old new : Server S) : Type 0 where
  pub between : Server S
  pub displaced : List ℕ
  pub closed : List ℤ
  pub writes : WritesReleased now old between displaced closed
  pub cuts : new ≡ server between.host between.hub (without_numbers displaced between.connections) between.admission

-- ---- a turn

-- the count of a host's tags fits 32 bits
abbrev pub HasRoom : {S : Type 0} → ReplicaHost S → Type 0
HasRoom host = host.tags.used ≤ 4294967296

-- a turn, whichever connections its messages go on
abbrev pub turn_by : List Arrival → (ℕ → ℕ) → List (Input Call) → List Request → List Caught → Turn Call
turn_by arrivals line_to inputs requests taken = record { brought = brought_on arrivals; line_to = line_to; inputs = inputs; requests = requests; taken = taken }

module _ {S : Type 0} (may_recover : S → Stable → Type 0) (boots : S → ℕ) (me : Member) where
  pub record HasServed (arrivals : List Arrival) (now : ℤ) (election : ElectionView) (old : Server S) (next : ElectionView) (new : Server S) (messages : List (Message Call)) : Type 0 where
    -- exactly the messages, in order, each once; then what the election decides; then what the
    -- frames of clients ask
    pub heard : ReplicaHost S
    pub decided : ReplicaHost S
    pub served : Server S
    pub hears : HearsAll may_recover boots me (mail_for me arrivals) old.host heard
    pub decides : Decides may_recover boots me (after_arrivals arrivals election) heard next decided
    pub serves : ServesClients me now (server decided old.hub old.connections old.admission) served
    -- all of it is stored, and then messages leave, and clients are written to
    pub writes : WritesAll now served new
    pub inputs : List (Input Call)
    pub requests : List Request
    pub does : (line_to : ℕ → ℕ) → TurnsTo (profile_for me.servers) may_recover boots me.servers me.number old.host.tags.boot old.host.tags.used new.host.tags.used
        old.host.host (turn_by arrivals line_to inputs requests served.host.host.state.caught) messages new.host.host
    pub boot : new.host.tags.boot ≡ old.host.tags.boot
    pub ready : IsReady may_recover me new.host
    pub written : new.host.tree.news ≡ []

  -- nothing is sent or written, and the store recovers what some first inputs have left
  pub record HasStopped (arrivals : List Arrival) (old : ReplicaHost S) (storage : S) : Type 0 where
    pub inputs : List (Input Call)
    pub requests : List Request
    pub next_used : ℕ
    pub does : (line_to : ℕ → ℕ) → StopsWith (profile_for me.servers) may_recover boots me.servers me.number old.tags.boot old.tags.used next_used
        old.host (turn_by arrivals line_to inputs requests []) storage
