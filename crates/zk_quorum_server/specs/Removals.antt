-- The connections of a server that are over. ZooKeeper Programmer's Guide, "ZooKeeper Sessions": a session
-- outlives its connection; "ZooKeeper Watches".
use Rattle.std.specs.Prelude.{◌≡◌, ℕ, List, [], ◌∷◌}
use Rattle.zk_client_port.specs.Ports.{all_detached, numbers_over, without_over, without_requests}
use Rattle.zk_client_port.specs.declared.admission.Admission.{Admission}
use Rattle.zk_host.specs.WatchedTrees.{WatchedTreeView, after_close}
use Rattle.zk_host.specs.declared.replica_host.ReplicaHost.{ReplicaHost}
use Rattle.zk_quorum_server.specs.Servers.{ServerView}
use Rattle.zk_server.specs.Peers.{PeerView}
use Rattle.zk_server.specs.declared.site.Site.{Site}
use Rattle.zk_server.specs.declared.site.Site.TheVariants as sites

-- the watches of these connections are dropped
abbrev pub without_watches : List ℕ → WatchedTreeView → WatchedTreeView
without_watches [] tree = tree
without_watches (number ∷ numbers) tree = without_watches numbers (after_close number tree)

abbrev pub host_without_watches : {S : Type 0} → List ℕ → ReplicaHost S → ReplicaHost S
host_without_watches numbers host = record host { tree = without_watches numbers host.tree }

abbrev pub site_without_watches : {S : Type 0} → List ℕ → Site S → Site S
site_without_watches numbers (sites.Runs host) = sites.Runs (host_without_watches numbers host)
site_without_watches numbers (sites.Stopped storage) = sites.Stopped storage

abbrev pub peer_without_watches : {S : Type 0} → List ℕ → PeerView S → PeerView S
peer_without_watches numbers it = record it { site = site_without_watches numbers it.site }

-- each session goes on to its deadline
abbrev pub detaching : List ℕ → Admission → Admission
detaching numbers it = record it { sessions = all_detached numbers it.sessions }

-- the connections that are over are removed, with their outstanding requests and their watches
abbrev pub without_over_at : {S : Type 0} → ServerView S → ServerView S
without_over_at it = record {
  peer = peer_without_watches (numbers_over it.connections) it.peer;
  hub = without_requests (numbers_over it.connections) it.hub;
  connections = without_over it.connections;
  admission = detaching (numbers_over it.connections) it.admission;
}
