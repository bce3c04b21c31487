use Rattle.std.proofs.Common.{rules}
use Rattle.zk_quorum_server.proofs.Settling.{starts_with}
use Rattle.zk_quorum_server.proofs.server.Server.start.Goals as goal

pub returns : goal.returns
returns g c =
    starts_with g.S.Storage.is_clean g.S.Storage.may_recover g.S.Storage.boots c.args.me c.args.storage c.in_ok-host.host c.in_ok-host.ensures.host c.in_ok-host.ensures.tags c.in_ok-host.ensures.boots
    c.vote.result c.new-election.result _ _ _ c.vote.ensures c.new-election.ensures (search rules) (search rules)
