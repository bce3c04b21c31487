use Rattle.zk_model.specs.Ensembles.{profile_by}
use Rattle.zk_host_laws.proofs.Showing.{trees_show, releases_deliver, releases_show}
use Rattle.zk_host_laws.proofs.laws.trees_show_what_is_delivered.Goals as goal

pub returns-clause-shown : goal.returns-clause-shown
returns-clause-shown g c = trees_show (profile_by (g.Q.Quorums.passes c.args._quorums.now)) c.hosts_never_go_back.ensures.grows

pub returns-clause-delivered : goal.returns-clause-delivered
returns-clause-delivered g c = releases_deliver

pub returns-clause-released : goal.returns-clause-released
returns-clause-released g c = releases_show (profile_by (g.Q.Quorums.passes c.args._quorums.now))
