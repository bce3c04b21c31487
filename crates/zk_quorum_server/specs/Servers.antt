-- A server with its clients.
use Rattle.std.specs.Prelude.{◌≡◌, ℕ, ℤ, List, [], Some, Result, Ok, Err}
use Rattle.zab_epoch.specs.declared.message.Message.{Message}
use Rattle.zab_epoch.specs.declared.stable.Stable.{Stable}
use Rattle.zk_client_port.specs.Turns.{Server, server}
use Rattle.zk_client_port.specs.declared.admission.Admission.{Admission}
use Rattle.zk_client_port.specs.declared.expected.Expected.{Expected}
use Rattle.zk_connections.specs.declared.connection.Connection.{Connection}
use Rattle.zk_host.specs.declared.replica_host.ReplicaHost.{ReplicaHost}
use Rattle.zk_hub.specs.declared.outcome.Outcome.{Outcome}
use Rattle.zk_hub.specs.declared.request.Outstanding.{Outstanding}
use Rattle.zk_peer_links.specs.declared.arrival.Arrival.{Arrival}
use Rattle.zk_requests.specs.declared.call.Call.{Call}
use Rattle.zk_server.specs.Elections.{ElectionView}
use Rattle.zk_server.specs.Peers as peers
use Rattle.zk_server.specs.Peers.{PeerView}
use Rattle.zk_server.specs.Sites.{IsReady}
use Rattle.zk_server.specs.declared.member.Member.{Member}
use Rattle.zk_server.specs.declared.site.Site.{Site}
use Rattle.zk_server.specs.declared.site.Site.TheVariants as sites
use Rattle.zk_server.specs.declared.stopped.Stopped.{Stopped}
use Rattle.zk_quorum_server.specs.Turns.{HasServed, HasStopped}

pub record ServerView (S : Type 0) : Type 0 where
  -- its part in its ensemble
  pub peer : PeerView S
  -- the clients' outstanding requests, their connections, and who may have a session
  pub hub : List (Outstanding Expected Outcome)
  pub connections : List Connection
  pub admission : Admission

abbrev pub with_clients : {S : Type 0} → PeerView S → List (Outstanding Expected Outcome) → List Connection → Admission → ServerView S
with_clients peer hub connections admission =
    record { peer = peer; hub = hub; connections = connections; admission = admission }

abbrev pub clients_of : {S : Type 0} → ReplicaHost S → ServerView S → Server S
clients_of host it = server host it.hub it.connections it.admission

-- while it runs: all that it has is stored, it has nothing to send, and nothing to write
pub record IsAtRest {S : Type 0} (may_recover : S → Stable → Type 0) (me : Member) (site : Site S) : Type 0 where
  pub ready : (host : ReplicaHost S) → site ≡ sites.Runs host → IsReady may_recover me host
  pub written : (host : ReplicaHost S) → site ≡ sites.Runs host → host.tree.news ≡ []

module _ {S : Type 0} (may_recover : S → Stable → Type 0) (boots : S → ℕ) where
  -- a turn that returns
  pub record Turns (arrivals : List Arrival) (now : ℤ) (old new : ServerView S) (messages : List (Message Call)) : Type 0 where
    pub me : new.peer.me ≡ old.peer.me
    pub before : ReplicaHost S
    pub after : ReplicaHost S
    pub ran : old.peer.site ≡ sites.Runs before
    pub runs : new.peer.site ≡ sites.Runs after
    pub turned : HasServed may_recover boots old.peer.me arrivals now old.peer.election (clients_of before old)
        new.peer.election (clients_of after new) messages

  -- a turn that stops the server: no connection is left that could be written to
  pub record Stops (arrivals : List Arrival) (old new : ServerView S) : Type 0 where
    pub me : new.peer.me ≡ old.peer.me
    pub before : ReplicaHost S
    pub storage : S
    pub ran : old.peer.site ≡ sites.Runs before
    pub stopped : new.peer.site ≡ sites.Stopped (Some storage)
    pub failed : HasStopped may_recover boots old.peer.me arrivals before storage
    pub requests : new.hub ≡ []
    pub closed : new.connections ≡ []

-- a start on a store: if the store is clean, on what it recovers. There are no clients.
pub record StartsAt {S : Type 0} (clean : S → Type 0) (may_recover : S → Stable → Type 0) (boots : S → ℕ) (me : Member) (storage : S) (it : ServerView S) : Type 0 where
  pub peer : peers.StartsAt clean may_recover boots me storage it.peer
  pub requests : it.hub ≡ []
  pub closed : it.connections ≡ []

-- a turn of a host and its clients, for each result
abbrev pub Ran : {S : Type 0} → (S → Stable → Type 0) → (S → ℕ) → Member → List Arrival → ℤ → ElectionView → Server S → ElectionView
    → List (Outstanding Expected Outcome) → List Connection → Admission → Site S → Result (List (Message Call)) Stopped → Type 0
Ran may_recover boots me arrivals now election old next hub connections admission (sites.Runs new) (Ok messages) =
    HasServed may_recover boots me arrivals now election old next (server new hub connections admission) messages
Ran may_recover boots me arrivals now election old next hub connections admission (sites.Stopped (Some storage)) (Err why) =
    HasStopped may_recover boots me arrivals old.host storage × ((hub ≡ []) × (connections ≡ []))
Ran may_recover boots me arrivals now election old next hub connections admission site result = ⊥
