-- Sessions that expire, and those of a new leader. ZooKeeper Programmer's Guide, "ZooKeeper
-- Sessions": the leader of the ensemble closes a session that expires.
use Rattle.std.specs.Prelude.{◌≡◌, ℕ, ◌-◌, ℤ, List, [], ◌∷◌, length, set, Option, Some, None, Result}
use Rattle.zab_broadcast.specs.Calls.{Setting}
use Rattle.zab_host.specs.Hosts.{Input, Submits}
use Rattle.zk_client_port.specs.Execution.{RequestsTo}
use Rattle.zk_client_port.specs.Listings.{sessions_in}
use Rattle.zk_client_port.specs.Ports.{all_detached}
use Rattle.zk_client_port.specs.Sessions.{adopted, renewed}
use Rattle.zk_client_port.specs.declared.admission.Admission.{Admission}
use Rattle.zk_client_port.specs.declared.fault.ServeFault.{ServeFault}
use Rattle.zk_client_service.specs.Ensembles.{Ensemble}
use Rattle.zk_host.specs.declared.replica_host.ReplicaHost.{ReplicaHost}
use Rattle.zk_peers.specs.Hosts.{setting_for}
use Rattle.zk_peers.specs.Peers.{host_at, place_at, SameAround}
use Rattle.zk_peers.specs.declared.place.Place.{Place}
use Rattle.zk_peers.specs.declared.place.Place.TheVariants.{Up}
use Rattle.zk_requests.specs.Requests.{closing_call}
use Rattle.zk_requests.specs.declared.call.Call.{Call}
use Rattle.zk_connections.specs.Sessions.{expired_at, has_id, touched, with_first}
use Rattle.zk_connections.specs.declared.session.Session.{Session}

-- ---- the sessions of a host's tree

-- those that are not known yet are opened
abbrev pub adopting : {S : Type 0} → ℤ → ReplicaHost S → Admission → Admission
adopting now host it = record it { sessions = adopted now (sessions_in host.tree.tree) it.sessions }

-- a server's host is up, and those of its tree are opened
pub record AdoptsAt {S : Type 0} (server : ℕ) (now : ℤ) (old : Ensemble S) (known : Admission) : Type 0 where
  pub host : ReplicaHost S
  pub host_is : host_at old.peers.places.items server ≡ Some host
  pub knows : known ≡ adopting now host old.admission

-- ---- expired sessions

abbrev pub closing : ℤ → ℤ → ℕ → Input Call
closing session now tag = Submits (closing_call tag session now)

-- A host is asked to close sessions, in order. One that it rejects expires again.
abbrev pub Closes : {S : Type 0} → Setting Call → ℤ → List ℤ → ReplicaHost S → ReplicaHost S → Type 0
Closes {S} setting now [] old new = new ≡ old
Closes {S} setting now (session ∷ sessions) old new =
    (between : ReplicaHost S) × (result : Result (Option ℕ) ServeFault) × RequestsTo setting (closing session now) old between result
    × Closes setting now sessions between new

-- a host that is up is asked
pub record ClosesUp {S : Type 0} (setting : Setting Call) (now : ℤ) (sessions : List ℤ) (old new : Place S) : Type 0 where
  pub host : ReplicaHost S
  pub was : old ≡ Up host
  pub host_then : ReplicaHost S
  pub is : new ≡ Up host_then
  pub closes : Closes setting now sessions host host_then

-- each has its whole timeout again
abbrev pub all_touched : ℤ → List ℤ → List Session → List Session
all_touched now [] sessions = sessions
all_touched now (id ∷ ids) sessions = all_touched now ids (with_first (has_id id) (touched now) sessions)

abbrev pub touching : ℤ → List ℤ → Admission → Admission
touching now ids it = record it { sessions = all_touched now ids it.sessions }

-- this server's host is asked to close these sessions, and no other host
pub record ClosesAt {S : Type 0} (server : ℕ) (now : ℤ) (sessions : List ℤ) (old new : Ensemble S) : Type 0 where
  pub host : ReplicaHost S
  pub host_then : ReplicaHost S
  pub host_is : Some (Up host) ≡ place_at old.peers.places.items server
  pub closes : Closes (setting_for (length old.peers.places.items)) now sessions host host_then
  pub places : new.peers.places.items ≡ set old.peers.places.items (server - 1) (Up host_then)
  pub leader_is : new.peers.leader ≡ old.peers.leader
  pub around : SameAround old.peers new.peers
  pub admission : new.admission ≡ touching now sessions old.admission
  pub rest : (new.ports ≡ old.ports) × ((new.opened ≡ old.opened) × (new.stops ≡ old.stops))

-- The leader's host is asked to close the sessions that have expired, and no other host is. A
-- session of its tree that was not known gets its whole timeout first.
pub record Expires {S : Type 0} (now : ℤ) (old new : Ensemble S) : Type 0 where
  pub leader : ℕ
  pub leader_is : old.peers.leader ≡ Some leader
  pub known : Admission
  pub adopts : AdoptsAt leader now old known
  pub closes : ClosesAt leader now (expired_at now known.sessions) (record old { admission = known }) new

-- ---- connections that are over

-- their sessions go on to their deadlines
abbrev pub detaching : List ℕ → Admission → Admission
detaching numbers it = record it { sessions = all_detached numbers it.sessions }

-- ---- a new leader

-- each session of the tree has its whole timeout again; if memory runs out, some are not known yet
pub data Renews (now : ℤ) (known : List (ℕ × ℤ)) (old new : Admission) : Type 0 where
  AllKnown : (is : new ≡ record old { sessions = renewed now known (adopted now known old.sessions) }) → Renews now known old new
  NoMemory : (some : Admission) (is : new ≡ record some { sessions = renewed now known some.sessions }) → Renews now known old new

abbrev pub RenewsAt : {S : Type 0} → ℤ → Option (ReplicaHost S) → Admission → Admission → Type 0
RenewsAt now None old new = new ≡ old
RenewsAt now (Some host) old new = Renews now (sessions_in host.tree.tree) old new

abbrev pub leading_host : {S : Type 0} → List (Place S) → Option ℕ → Option (ReplicaHost S)
leading_host places None = None
leading_host places (Some leader) = host_at places leader

pub record RenewsSessions {S : Type 0} (now : ℤ) (old new : Ensemble S) : Type 0 where
  pub admission : RenewsAt now (leading_host old.peers.places.items old.peers.leader) old.admission new.admission
  pub peers : new.peers ≡ old.peers
  pub rest : (new.ports ≡ old.ports) × ((new.opened ≡ old.opened) × (new.stops ≡ old.stops))
