use Rattle.zk_server.proofs.LinkedSchedules.{agree_linked}
use Rattle.zk_server.proofs.laws.linked_peers_agree.Goals as goal

pub returns : goal.returns
returns g c = λ reader. agree_linked g.S.Storage.is_clean g.S.Storage.may_recover g.S.Storage.boots c.args._servers reader c.peers_agree.ensures
