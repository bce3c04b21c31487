-- A turn of a server: what it has delivered is written to its connections, and then what these have
-- sent is executed. ZooKeeper Programmer's Guide, "Consistency Guarantees" and "ZooKeeper Watches".
use Rattle.std.specs.Prelude.{◌≡◌, ℕ, ℤ, zero, suc, List, [], ◌++◌, length, map, drop, set, slice_get, nat_eq, Some, if◌then◌else◌}
use Rattle.zab_broadcast.specs.Calls.{Setting}
use Rattle.zab_broadcast.specs.declared.syncs.Caught.{Caught}
use Rattle.zk_client_port.specs.Ports.{closed_if, cut_off_if}
use Rattle.zk_client_port.specs.declared.client_port.Selection.TheVariants.{All}
use Rattle.zk_client_port.specs.Execution.{Served, served}
use Rattle.zk_client_port.specs.Outputs.{after_outputs, gained_from}
use Rattle.zk_client_port.specs.Serving.{Breaks, KeepsTree, Serves}
use Rattle.zk_client_port.specs.Sessions.{after_attachments, after_ends, displaced_by_all}
use Rattle.zk_client_port.specs.declared.admission.Admission.{Admission}
use Rattle.zk_client_port.specs.declared.execution.Moment.{Moment}
use Rattle.zk_client_port.specs.declared.expected.Expected.{Expected}
use Rattle.zk_client_port.specs.declared.fault.ServeFault.TheVariants as faults
use Rattle.zk_connections.specs.Connections.{lost}
use Rattle.zk_connections.specs.declared.connection.Connection.{Connection}
use Rattle.zk_hub.specs.Outcomes.{hub_news, news_at}
use Rattle.zk_hub.specs.declared.outcome.Outcome.{Outcome}
use Rattle.zk_hub.specs.declared.outcome.Outcome.TheVariants.{Synced}
use Rattle.zk_host.specs.Delivered.{closed_in, delivered_in}
use Rattle.zk_host.specs.WatchedTrees.{after_entries}
use Rattle.zk_host.specs.declared.replica_host.ReplicaHost.{ReplicaHost}
use Rattle.zk_hub.specs.Deliveries.{left_after, outputs_of}
use Rattle.zk_hub.specs.declared.news.News.{News}
use Rattle.zk_hub.specs.declared.news.News.TheVariants as news
use Rattle.zk_hub.specs.declared.news.Output.{Output}
use Rattle.zk_hub.specs.declared.request.Outstanding.{Outstanding}
use Rattle.zk_requests.specs.declared.call.Call.{Call}
use Rattle.zk_watch.specs.declared.watch.Fired.{Fired}

-- ---- outputs

-- a server's connections, who may have a session, and the connections that have lost theirs
pub record Clients : Type 0 where
  pub connections : List Connection
  pub admission : Admission
  pub displaced : List ℕ

abbrev pub clients : List Connection → Admission → List ℕ → Clients
clients connections admission displaced = record { connections = connections; admission = admission; displaced = displaced }

-- outputs are written in order, and then sessions are given to the connections that have got them
abbrev pub written : ℤ → ℤ → List (Output Fired Expected Outcome) → Clients → Clients
written last now outputs it =
    clients (after_outputs it.admission last outputs it.connections)
    (record it.admission { sessions = after_attachments now (gained_from it.admission last outputs it.connections) it.admission.sessions })
    (it.displaced ++ displaced_by_all now (gained_from it.admission last outputs it.connections) it.admission.sessions)

abbrev pub synced : Caught → News Fired Outcome
synced it = news.Outcome it.tag Synced

-- the connections of sessions that have ended close
abbrev pub ended : List ℤ → Clients → Clients
ended closed it = clients (map (closed_if closed) it.connections) (record it.admission { sessions = after_ends closed it.admission.sessions }) it.displaced

-- ---- input

-- a server's host, the outstanding requests of its connections, and these
pub record Server (S : Type 0) : Type 0 where
  pub host : ReplicaHost S
  pub hub : List (Outstanding Expected Outcome)
  pub connections : List Connection
  pub admission : Admission

abbrev pub server : {S : Type 0} → ReplicaHost S → List (Outstanding Expected Outcome) → List Connection → Admission → Server S
server host hub connections admission = record { host = host; hub = hub; connections = connections; admission = admission }

-- if memory ran out in the hub, all outstanding requests are lost, and all connections with them
abbrev pub cut_off_with : List (Outstanding Expected Outcome) → List Connection → List Connection
cut_off_with hub its = if nat_eq (length hub) 0 then map (cut_off_if All) its else its

-- What the connection at a place has sent is executed. Or memory runs out: the host has what the
-- frames before have asked, and the connection is cut off.
pub data ServesPlace {S : Type 0} (setting : Setting Call) (moment : Moment) (place : ℕ) (old new : Server S) : Type 0 where
  Executed : (before after : Connection) (is : slice_get old.connections place ≡ Some before)
      (serves : Serves setting moment (served old.host old.hub before) old.admission (served new.host new.hub after) new.admission)
      (written : new.connections ≡ set old.connections place after) → ServesPlace setting moment place old new
  CutOff : (before after : Connection) (is : slice_get old.connections place ≡ Some before) (kept : KeepsTree old.host new.host)
      (breaks : Breaks setting moment (served old.host old.hub before) old.admission (served new.host new.hub after) new.admission faults.Connection)
      (written : new.connections ≡ cut_off_with new.hub (set old.connections place (lost after))) → ServesPlace setting moment place old new

-- the first connections, in order
abbrev pub ServesFirst : {S : Type 0} → Setting Call → Moment → ℕ → Server S → Server S → Type 0
ServesFirst {S} setting moment zero old new = new ≡ old
ServesFirst {S} setting moment (suc places) old new =
    (between : Server S) × ServesFirst setting moment places old between × ServesPlace setting moment places between new

-- an allocation of the host fails while the connection at a place is served
pub record FailsAtPlace {S : Type 0} (setting : Setting Call) (moment : Moment) (place : ℕ) (old : Server S) (host : ReplicaHost S) : Type 0 where
  pub before : Connection
  pub is : slice_get old.connections place ≡ Some before
  pub after : Served S
  pub heard : Admission
  pub breaks : Breaks setting moment (served old.host old.hub before) old.admission after heard faults.Host
  pub host_is : host ≡ after.host

-- the first connections are served, and then an allocation of the host fails
pub record FailsToServe {S : Type 0} (setting : Setting Call) (moment : Moment) (old : Server S) (host : ReplicaHost S) : Type 0 where
  pub places : ℕ
  pub between : Server S
  pub first : ServesFirst setting moment places old between
  pub fails : FailsAtPlace setting moment places between host

-- ---- a turn

-- the host has stored what it has, and its tree shows all that it has delivered
pub record Releases {S : Type 0} (old new : ReplicaHost S) : Type 0 where
  pub state : new.host.state ≡ old.host.state
  pub outbox : new.host.outbox ≡ []
  pub tree : new.tree ≡ record (after_entries old.tree (drop old.shown (delivered_in new.host.state))) { news = [] }
  pub shown : new.shown ≡ length (delivered_in new.host.state)
  pub tags : new.tags ≡ old.tags

-- the completed syncs are taken
pub record TakesSyncs {S : Type 0} (old new : ReplicaHost S) : Type 0 where
  pub state : new.host.state ≡ record old.host.state { caught = [] }
  pub outbox : new.host.outbox ≡ old.host.outbox
  pub storage : new.host.storage ≡ old.host.storage
  pub tree : new.tree ≡ old.tree
  pub shown : new.shown ≡ old.shown
  pub tags : new.tags ≡ old.tags

-- the requests that are left
abbrev pub left_by_release : {S : Type 0} → ReplicaHost S → ReplicaHost S → List (Outstanding Expected Outcome) → List (Outstanding Expected Outcome)
left_by_release old released requests = left_after (map hub_news (news_at old.tree old.shown released.host.state)) requests

abbrev pub left_by_syncs : {S : Type 0} → ReplicaHost S → List (Outstanding Expected Outcome) → List (Outstanding Expected Outcome)
left_by_syncs released requests = left_after (map synced released.host.state.caught) requests

-- The events and results of the newly delivered entries are written, and then those of syncs. A reply
-- among the first comes before later events of them: its header is no later than what was written
-- before, a header before it, or its own transaction. So a client that breaks off after it has seen
-- no transaction whose events it lacks.
abbrev pub after_release : {S : Type 0} → ℤ → ReplicaHost S → ReplicaHost S → List (Outstanding Expected Outcome) → Clients → Clients
after_release now old released requests it =
    written released.tree.tree.last now (outputs_of (map synced released.host.state.caught) (left_by_release old released requests))
    (written old.tree.tree.last now (outputs_of (map hub_news (news_at old.tree old.shown released.host.state)) requests) it)

abbrev pub closed_by : {S : Type 0} → ReplicaHost S → ReplicaHost S → List ℤ
closed_by old released = closed_in (drop old.shown (delivered_in released.host.state))

-- what a host releases is written, and sessions and connections end
pub record WritesReleased {S : Type 0} (now : ℤ) (old new : Server S) (displaced : List ℕ) (closed : List ℤ) : Type 0 where
  pub released : ReplicaHost S
  pub releases : Releases old.host released
  pub syncs : TakesSyncs released new.host
  pub hub : new.hub ≡ left_by_syncs released (left_by_release old.host released old.hub)
  pub writes : clients new.connections new.admission displaced
      ≡ ended (closed_by old.host released) (after_release now old.host released old.hub (clients old.connections old.admission []))
  pub closes : closed ≡ closed_by old.host released

pub record Turns {S : Type 0} (setting : Setting Call) (moment : Moment) (old new : Server S) (displaced : List ℕ) (closed : List ℤ) : Type 0 where
  pub between : Server S
  pub writes : WritesReleased moment.now old between displaced closed
  pub serves : ServesFirst setting moment (length between.connections) between new
