use Rattle.std.proofs.Common.{◌≡◌, drop}
use Rattle.zk_host.specs.WatchedTrees.{without_connections}
use Rattle.zk_host.proofs.watched_tree.drop_session.Given as goal

abbrev pub invariant-loop-connection : goal.invariant-loop-connection
invariant-loop-connection l = without_connections l.session (drop l.connection-index l.connections) l.watches ≡ without_connections l.session l.connections l.fn.watches
