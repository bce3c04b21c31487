use Rattle.zk_model.specs.Ensembles.{profile_by}
use Rattle.zk_host_laws.proofs.Showing.{news_follow}
use Rattle.zk_host_laws.proofs.laws.news_follows_the_trace.Goals as goal

pub returns : goal.returns
returns g c = news_follow (profile_by (g.Q.Quorums.passes c.args._quorums.now)) c.hosts_never_go_back.ensures.grows
