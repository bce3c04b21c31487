use Rattle.zk_quorum_server.proofs.Schedules.{agree_all}
use Rattle.zk_quorum_server.proofs.laws.whole_servers_agree.Goals as goal

pub returns : goal.returns
returns g c = agree_all g.S.Storage.is_clean g.S.Storage.may_recover g.S.Storage.boots c.args._servers c.servers_agree.ensures
