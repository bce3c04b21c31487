-- The sessions so far were closed: with the rest, all are.
use Rattle.std.proofs.Common.{drop}
use Rattle.zk_client_service.specs.Expiries.{Closes}
use Rattle.zk_host.specs.declared.replica_host.ReplicaHost.{ReplicaHost}
use Rattle.zk_peers.specs.Hosts.{setting_for}
use Rattle.zk_client_service.proofs.expiry.close_all.Given as goal

abbrev pub invariant-loop-session : goal.invariant-loop-session
invariant-loop-session g l =
    (last : ReplicaHost g.row.S.Denot) → Closes (setting_for l.quorums.servers) l.fn.now (drop l.session-index l.sessions) l.host last
    → Closes (setting_for l.quorums.servers) l.fn.now l.sessions l.fn.host last
