-- What a server does with its clients, from its parts.
use Rattle.std.proofs.Common.{◌≡◌, ℕ, ℤ, List, length, map, refl, sym, ap, ◌∙◌, subst}
use Rattle.zk_client_port.specs.Turns.{Server, server, ServesFirst, WritesReleased}
use Rattle.zk_client_port.specs.declared.admission.Admission.{Admission}
use Rattle.zk_client_port.specs.declared.execution.Moment.{Moment}
use Rattle.zk_client_port.specs.declared.expected.Expected.{Expected}
use Rattle.zk_connections.specs.declared.connection.Connection.{Connection}
use Rattle.zk_connections.specs.declared.status.Mode.{Mode}
use Rattle.zk_host.specs.declared.replica_host.ReplicaHost.{ReplicaHost}
use Rattle.zk_hub.specs.declared.outcome.Outcome.{Outcome}
use Rattle.zk_hub.specs.declared.request.Outstanding.{Outstanding}
use Rattle.zk_quorum_server.specs.Turns.{begun, mode_of, unserved, without_numbers, ServesClients, WritesAll}
use Rattle.zk_server.specs.Deeds.{setting_for}
use Rattle.zk_server.specs.declared.member.Member.{Member}

module _ {S : Type 0} (now : ℤ) where
  pub serves_clients : (me : Member) (host : ReplicaHost S) (hub hub_now : List (Outstanding Expected Outcome)) (connections all : List Connection) (admission : Admission) (number count : ℕ) (mode : Mode) (new : Server S)
      → hub_now ≡ hub → all ≡ map begun (unserved host connections) → number ≡ me.number → mode ≡ mode_of host.host.state.peer.role → count ≡ length all
      → ServesFirst (setting_for me.servers) (record { server = number; now = now; mode = mode; connections = count }) (length all) (server host hub_now all admission) new
      → ServesClients me now (server host hub connections admission) new
  serves_clients me host hub hub_now connections all admission number count mode new same is at role counted serves =
      subst (λ (h : List (Outstanding Expected Outcome)). ServesClients me now (server host h connections admission) new) same
      (subst (λ (its : List Connection). ServesFirst (setting_for me.servers) (record { server = me.number; now = now; mode = mode_of host.host.state.peer.role; connections = length its }) (length its) (server host hub_now its admission) new) is
      (subst (λ (moment : Moment). ServesFirst (setting_for me.servers) moment (length all) (server host hub_now all admission) new)
      (ap (λ (n : ℕ). record { server = n; now = now; mode = mode; connections = count }) at
      ∙ ap (λ (m : Mode). record { server = me.number; now = now; mode = m; connections = count }) role
      ∙ ap (λ (n : ℕ). record { server = me.number; now = now; mode = mode_of host.host.state.peer.role; connections = n }) counted) serves))

  pub writes_all : (old : Server S) (host : ReplicaHost S) (hub hub_now : List (Outstanding Expected Outcome)) (connections cut : List Connection) (admission : Admission) (displaced : List ℕ) (closed : List ℤ)
      → WritesReleased now old (server host hub connections admission) displaced closed → hub_now ≡ hub → cut ≡ without_numbers displaced connections → WritesAll now old (server host hub_now cut admission)
  writes_all old host hub hub_now connections cut admission displaced closed writes same cuts = record {
    between = server host hub connections admission;
    displaced = displaced;
    closed = closed;
    writes = writes;
    cuts = ap (λ (h : List (Outstanding Expected Outcome)). server host h cut admission) same ∙ ap (λ (its : List Connection). server host hub its admission) cuts;
  }
