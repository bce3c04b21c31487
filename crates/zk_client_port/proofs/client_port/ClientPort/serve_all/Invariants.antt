-- What the connections so far have sent is executed.
use Rattle.std.proofs.Common.{◌≡◌, length}
use Rattle.zk_client_port.specs.Serving.{KeepsTree}
use Rattle.zk_client_port.specs.Turns.{server, ServesFirst}
use Rattle.zk_model.specs.Ensembles.{profile_by}
use Rattle.zk_client_port.proofs.client_port.ClientPort.serve_all.Given as goal

abbrev pub invariant-connections : goal.invariant-connections
invariant-connections g l = record {
  serves : ServesFirst (profile_by (g.Q.Quorums.passes l.quorums)).setting l.moment l.index (server l.fn.host l.fn.self.hub l.fn.self.connections.items l.fn.admission) (server l.host l.self.hub l.self.connections.items l.admission);
  kept : KeepsTree l.fn.host l.host;
  count : length l.self.connections.items ≡ length l.fn.self.connections.items;
}
