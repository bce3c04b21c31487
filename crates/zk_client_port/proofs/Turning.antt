-- What a host releases is written, part by part.
use Rattle.std.proofs.Common.{◌≡◌, ◌∙◌, ℤ, List, [], map, ap}
use Rattle.zk_client_port.specs.Ports.{closed_if}
use Rattle.zk_client_port.specs.Turns.{Clients, clients, written, synced, ended, Server, Releases, TakesSyncs, left_by_release, closed_by, WritesReleased}
use Rattle.zk_client_port.specs.Sessions.{after_ends}
use Rattle.zk_client_port.specs.declared.admission.Admission.{Admission}
use Rattle.zk_client_port.specs.declared.expected.Expected.{Expected}
use Rattle.zk_connections.specs.declared.connection.Connection.{Connection}
use Rattle.zk_hub.specs.Outcomes.{hub_news, news_at}
use Rattle.zk_hub.specs.declared.outcome.Outcome.{Outcome}
use Rattle.zk_host.specs.declared.replica_host.ReplicaHost.{ReplicaHost}
use Rattle.zk_hub.specs.Deliveries.{left_after, outputs_of}
use Rattle.zk_hub.specs.declared.news.Output.{Output}
use Rattle.zk_hub.specs.declared.request.Outstanding.{Outstanding}
use Rattle.zk_watch.specs.declared.watch.Fired.{Fired}

abbrev Outputs : Type 0
Outputs = List (Output Fired Expected Outcome)

abbrev Requests : Type 0
Requests = List (Outstanding Expected Outcome)

-- outputs are written twice, and then sessions end
writes : (before last now : ℤ) (first second : Outputs) (closed : List ℤ) (start between : Clients) (connections : List Connection) (admission : Admission) (after : Clients) → between ≡ written before now first start
    → after ≡ written last now second between → connections ≡ map (closed_if closed) after.connections → admission ≡ record after.admission { sessions = after_ends closed after.admission.sessions }
    → clients connections admission after.displaced ≡ ended closed (written last now second (written before now first start))
writes before last now first second closed start between connections admission after one two are is =
    ap (λ (its : List Connection). clients its admission after.displaced) are
    ∙ ap (λ (it : Admission). clients (map (closed_if closed) after.connections) it after.displaced) is
    ∙ ap (ended closed) (two ∙ ap (written last now second) one)

module _ {S : Type 0} (now : ℤ) (old new : Server S) (released : ReplicaHost S) (before last : ℤ) (first second : Outputs) (closed : List ℤ) (requests : Requests)
    (between after : Clients) where
  pub writes_released : Releases old.host released → TakesSyncs released new.host → before ≡ old.host.tree.tree.last → last ≡ released.tree.tree.last
      → first ≡ outputs_of (map hub_news (news_at old.host.tree old.host.shown released.host.state)) old.hub
      → requests ≡ left_by_release old.host released old.hub → second ≡ outputs_of (map synced released.host.state.caught) requests → new.hub ≡ left_after (map synced released.host.state.caught) requests
      → closed ≡ closed_by old.host released → between ≡ written before now first (clients old.connections old.admission []) → after ≡ written last now second between
      → new.connections ≡ map (closed_if closed) after.connections → new.admission ≡ record after.admission { sessions = after_ends closed after.admission.sessions }
      → WritesReleased now old new after.displaced closed
  writes_released releases syncs before_is last_is first_is requests_are second_is left_are closed_is one two are is = record {
    released = released;
    releases = releases;
    syncs = syncs;
    hub = left_are ∙ ap (left_after (map synced released.host.state.caught)) requests_are;
    writes =
        writes before last now first second closed (clients old.connections old.admission []) between new.connections new.admission after one two are is
        ∙ ap (λ (it : List ℤ). ended it (written last now second (written before now first (clients old.connections old.admission [])))) closed_is
        ∙ ap (λ (it : Outputs). ended (closed_by old.host released) (written last now it (written before now first (clients old.connections old.admission [])))) (second_is ∙ ap (outputs_of (map synced released.host.state.caught)) requests_are)
        ∙ ap (λ (it : Outputs). ended (closed_by old.host released) (written last now (outputs_of (map synced released.host.state.caught) (left_by_release old.host released old.hub)) (written before now it (clients old.connections old.admission [])))) first_is
        ∙ ap (λ (it : ℤ). ended (closed_by old.host released) (written it now (outputs_of (map synced released.host.state.caught) (left_by_release old.host released old.hub))
        (written before now (outputs_of (map hub_news (news_at old.host.tree old.host.shown released.host.state)) old.hub) (clients old.connections old.admission [])))) last_is
        ∙ ap (λ (it : ℤ). ended (closed_by old.host released) (written released.tree.tree.last now (outputs_of (map synced released.host.state.caught) (left_by_release old.host released old.hub))
        (written it now (outputs_of (map hub_news (news_at old.host.tree old.host.shown released.host.state)) old.hub) (clients old.connections old.admission [])))) before_is;
    closes = closed_is;
  }
