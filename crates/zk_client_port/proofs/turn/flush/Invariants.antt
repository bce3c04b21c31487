-- The reads so far are made, each took a request, and those of other connections stay.
use Rattle.std.proofs.Common.{◌≡◌, ◌≤◌, ◌+◌, length}
use Rattle.zk_client_port.proofs.Reading.{ReadSoFar}
use Rattle.zk_client_port.specs.Execution.{served}
use Rattle.zk_client_port.specs.Flushing.{KeepsServer}
use Rattle.zk_hub.specs.Hubs.{without_connection}
use Rattle.zk_client_port.proofs.turn.flush.Given as goal

abbrev pub invariant-reads : goal.invariant-reads
invariant-reads g l = record {
  so_far : ReadSoFar l.admission l.server l.fn.connection.number (served l.fn.host l.fn.hub l.fn.connection) (served l.host l.hub l.connection);
  fewer : l.made + length l.hub ≤ length l.fn.hub;
  kept : KeepsServer l.fn.host l.host;
  others : without_connection l.fn.connection.number l.hub ≡ without_connection l.fn.connection.number l.fn.hub;
}
