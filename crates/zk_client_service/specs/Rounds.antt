-- Rounds of an ensemble: each server receives its mail, and has its turn with its clients.
-- ZooKeeper Internals, "Atomic Broadcast"; ZooKeeper Programmer's Guide, "Consistency Guarantees".
use Rattle.std.specs.Prelude.{◌≡◌, ℕ, ◌+◌, ◌-◌, ◌<◌, ℤ, ◌||◌, zero, suc, nat_lt, Bool, true, false, List, [], ◌∷◌, ◌++◌, length, set, Option, Some, None, Result, Ok, Err}
use Rattle.zab_broadcast.specs.Calls.{Setting}
use Rattle.zab_epoch.specs.declared.message.Message.{Message}
use Rattle.zab_epoch.specs.declared.stable.Stable.{Stable}
use Rattle.zab_host.specs.declared.storage.StoreFault.{StoreFault}
use Rattle.zk_client_port.specs.Listings.{ListsTo}
use Rattle.zk_client_port.specs.Turns.{Server, server, Turns}
use Rattle.zk_client_port.specs.declared.admission.Admission.{Admission}
use Rattle.zk_client_port.specs.declared.client_port.Turned.{Turned}
use Rattle.zk_client_port.specs.declared.execution.Moment.{Moment}
use Rattle.zk_client_service.specs.Ensembles.{Ensemble, moment_at, server_cut_off, stopped_with, SameBeside}
use Rattle.zk_client_service.specs.Ports.{Port, at_server, without_number}
use Rattle.zk_client_service.specs.Services.{unserved_cut_off}
use Rattle.zk_connections.specs.declared.connection.Connection.{Connection}
use Rattle.zk_host.specs.declared.host_fault.ReleaseFault.{ReleaseFault}
use Rattle.zk_host.specs.declared.replica_host.ReplicaHost.{ReplicaHost}
use Rattle.zk_path.specs.declared.memory.NoMemory.{NoMemory}
use Rattle.zk_peers.specs.Hosts.{setting_for}
use Rattle.zk_peers.specs.Peers.{host_at, is_up_at, place_at, Crashes, FailsAt, Receives, SameAround}
use Rattle.zk_peers.specs.declared.place.Place.{Place}
use Rattle.zk_peers.specs.declared.place.Place.TheVariants.{Up}
use Rattle.zk_requests.specs.declared.call.Call.{Call}

-- ---- a server's turn

-- What its host has delivered is written to its clients, and what they have sent is executed. Then
-- the lists that they await are written.
pub record TurnsPort {S : Type 0} (setting : Setting Call) (moment : Moment) (old new : Server S) (displaced : List ℕ) : Type 0 where
  pub turned : List Connection
  pub closed : List ℤ
  pub turns : Turns setting moment old (server new.host new.hub turned new.admission) displaced closed
  pub result : Result (Unit {0}) NoMemory
  pub lists : ListsTo new.host.tree.tree turned new.connections result

abbrev pub served_by : {S : Type 0} → ReplicaHost S → Port → Admission → Server S
served_by host port admission = server host port.hub port.connections admission

-- a host turns in its place
pub record TurnsUp {S : Type 0} (setting : Setting Call) (moment : Moment) (old : Place S) (port : Port) (admission : Admission) (new : Place S) (next : Port) (after : Admission) (turned : Turned) : Type 0 where
  pub host : ReplicaHost S
  pub was : old ≡ Up host
  pub host_then : ReplicaHost S
  pub is : new ≡ Up host_then
  pub turns : TurnsPort setting moment (served_by host port admission) (served_by host_then next after) turned.displaced.items
  pub sent : turned.messages ≡ host.host.outbox

-- a host whose turn fails is still up
abbrev pub TurnsPlace : {S : Type 0} → Setting Call → Moment → Place S → Port → Admission → Place S → Port → Admission → Result Turned ReleaseFault → Type 0
TurnsPlace setting moment old port admission new next after (Ok turned) = TurnsUp setting moment old port admission new next after turned
TurnsPlace setting moment old port admission new next after (Err fault) = (host : ReplicaHost _) × (new ≡ Up host)

-- A server that is up has its turn, and no other server has. What its host had to send is taken.
pub record TurnsHost {S : Type 0} (server : ℕ) (now : ℤ) (old new : Ensemble S) (displaced : List ℕ) (messages : List (Message Call)) : Type 0 where
  pub host : ReplicaHost S
  pub host_then : ReplicaHost S
  pub port : Port
  pub port_then : Port
  pub host_is : Some (Up host) ≡ place_at old.peers.places.items server
  pub port_is : at_server old.ports server ≡ Some port
  pub turns : TurnsPort (setting_for (length old.peers.places.items)) (moment_at server now old)
      (served_by host port old.admission) (served_by host_then port_then new.admission) displaced
  pub sent : messages ≡ host.host.outbox
  pub places : new.peers.places.items ≡ set old.peers.places.items (server - 1) (Up host_then)
  pub leader_is : new.peers.leader ≡ old.peers.leader
  pub around : SameAround old.peers new.peers
  pub ports : new.ports ≡ set old.ports (server - 1) port_then
  pub rest : (new.opened ≡ old.opened) × (new.stops ≡ old.stops)

-- a turn that fails changes its own host and port alone, and the sessions
pub record FailsToTurn {S : Type 0} (server : ℕ) (old new : Ensemble S) : Type 0 where
  pub fails : FailsAt server old.peers new.peers
  pub port : Port
  pub ports : new.ports ≡ set old.ports (server - 1) port
  pub rest : (new.opened ≡ old.opened) × (new.stops ≡ old.stops)

abbrev pub TurnsHostTo : {S : Type 0} → ℕ → ℤ → Ensemble S → Ensemble S → Result Turned ReleaseFault → Type 0
TurnsHostTo server now old new (Ok turned) = TurnsHost server now old new turned.displaced.items turned.messages
TurnsHostTo server now old new (Err fault) = FailsToTurn server old new

-- ---- what a turn gives

-- a connection whose session another has got is cut off, at whichever server
abbrev pub without_numbers : List ℕ → List Port → List Port
without_numbers [] ports = ports
without_numbers (number ∷ numbers) ports = without_numbers numbers (without_number number ports)

-- the messages are mail of the next round
pub record Posts {S : Type 0} (displaced : List ℕ) (messages : List (Message Call)) (old new : Ensemble S) : Type 0 where
  pub ports : new.ports ≡ without_numbers displaced old.ports
  pub posted : new.peers.posted ≡ old.peers.posted ++ messages
  pub servers : (new.peers.places ≡ old.peers.places) × ((new.peers.leader ≡ old.peers.leader)
      × ((new.peers.cuts ≡ old.peers.cuts) × (new.peers.arriving ≡ old.peers.arriving)))
  pub rest : SameBeside old new

-- a host has messages for the next round
abbrev pub has_messages : {S : Type 0} → Option (ReplicaHost S) → Bool
has_messages None = false
has_messages (Some host) = nat_lt 0 (length host.host.outbox)

-- the server is down, or has no clients' port
pub data IsIdle {S : Type 0} (server : ℕ) (it : Ensemble S) : Type 0 where
  IsDown : (down : is_up_at it.peers.places.items server ≡ false) → IsIdle server it
  NoPort : (none : at_server it.ports server ≡ None) → IsIdle server it

-- ---- before and after a round

-- what was posted in the round before arrives
pub record Arrives {S : Type 0} (old new : Ensemble S) : Type 0 where
  pub arriving : new.peers.arriving ≡ old.peers.posted
  pub posted : new.peers.posted ≡ []
  pub servers : (new.peers.places ≡ old.peers.places) × ((new.peers.leader ≡ old.peers.leader) × (new.peers.cuts ≡ old.peers.cuts))
  pub ports : new.ports ≡ old.ports
  pub rest : SameBeside old new

-- the clients of servers that serve none are cut off
pub record CutsUnserved {S : Type 0} (old new : Ensemble S) : Type 0 where
  pub ports : new.ports ≡ unserved_cut_off old.peers.cuts.items old.peers.places.items old.peers.leader old.ports
  pub peers : new.peers ≡ old.peers
  pub rest : SameBeside old new

module _ {S : Type 0} (may_recover : S → Stable → Type 0) (boots : S → ℕ) where
  -- it crashes, its clients are cut off, and why it has stopped is kept
  pub record StopsServer (server : ℕ) (fault : StoreFault) (old new : Ensemble S) : Type 0 where
    pub crashes : Crashes may_recover boots server old.peers new.peers
    pub ports : new.ports ≡ server_cut_off server old.ports
    pub stops : new.stops ≡ stopped_with server fault old.stops
    pub rest : (new.admission ≡ old.admission) × (new.opened ≡ old.opened)

  -- a server's turn, and whether its host has messages then
  pub data TurnsTo (server : ℕ) (now : ℤ) (old new : Ensemble S) (waits : Bool) : Type 0 where
    NoTurn : (idle : IsIdle server old) (same : new ≡ old) (none : waits ≡ false) → TurnsTo server now old new waits
    OneTurn : (displaced : List ℕ) (messages : List (Message Call)) (between : Ensemble S)
        (turns : TurnsHost server now old between displaced messages) (posts : Posts displaced messages between new)
        (has : waits ≡ has_messages (host_at new.peers.places.items server)) → TurnsTo server now old new waits
    FailedTurn : (failed : Ensemble S) (fault : StoreFault) (fails : FailsToTurn server old failed)
        (stops : StopsServer server fault failed new) (none : waits ≡ false) → TurnsTo server now old new waits

  -- ---- mail

  -- a server receives its mail of the round, and all else stays; or its store fails, and it stops
  pub data ReceivesTo (server : ℕ) (old new : Ensemble S) : Type 0 where
    Received : (receives : Receives may_recover boots server old.peers new.peers) (ports : new.ports ≡ old.ports)
        (rest : SameBeside old new) → ReceivesTo server old new
    FailedMail : (failed : Ensemble S) (fault : StoreFault) (fails : FailsAt server old.peers failed.peers) (ports : failed.ports ≡ old.ports)
        (rest : SameBeside old failed) (stops : StopsServer server fault failed new) → ReceivesTo server old new

  -- ---- a round

  -- The first servers, one after another, each receive their mail and have their turn. Whether the
  -- host of one has messages then.
  abbrev pub FirstTurn : ℕ → ℤ → Ensemble S → Ensemble S → Bool → Type 0
  FirstTurn zero now old new waits = (new ≡ old) × (waits ≡ false)
  FirstTurn (suc servers) now old new waits =
      (between : Ensemble S) × (middle : Ensemble S) × (before : Bool) × (one : Bool)
      × FirstTurn servers now old between before × ReceivesTo (servers + 1) between middle
      × TurnsTo (servers + 1) now middle new one × (waits ≡ (one || before))

  -- all servers; another round is needed while there is mail, or a host has messages
  pub record Round (now : ℤ) (old new : Ensemble S) (waits : Bool) : Type 0 where
    pub before : Ensemble S
    pub arrives : Arrives old before
    pub some : Bool
    pub turns : FirstTurn (length old.ports) now before new some
    pub waits_is : waits ≡ (some || nat_lt 0 (length new.peers.posted))

  -- ---- rounds

  -- rounds that each need another
  abbrev pub Rounds : ℕ → ℤ → Ensemble S → Ensemble S → Type 0
  Rounds zero now old new = new ≡ old
  Rounds (suc rounds) now old new = (between : Ensemble S) × Rounds rounds now old between × Round now between new true

  -- rounds until none is needed; or as many as are allowed
  pub data TurnsFor (rounds : ℕ) (now : ℤ) (old new : Ensemble S) (waits : Bool) : Type 0 where
    Settled : (made : ℕ) (few : made < rounds) (between last : Ensemble S) (first : Rounds made now old between)
        (ends : Round now between last false) (cuts : CutsUnserved last new) (none : waits ≡ false) → TurnsFor rounds now old new waits
    Unsettled : (made : ℕ) (all : made ≡ rounds) (first : Rounds made now old new) (more : waits ≡ true) → TurnsFor rounds now old new waits
