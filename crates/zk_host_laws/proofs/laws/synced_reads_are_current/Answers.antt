use Rattle.zk_model.specs.Ensembles.{profile_by}
use Rattle.zk_host_laws.proofs.Syncs.{synced_reads}
use Rattle.zk_host_laws.proofs.laws.synced_reads_are_current.Goals as goal

pub returns : goal.returns
returns g c = synced_reads (profile_by (g.Q.Quorums.passes c.args._quorums.now)) c.hosts_never_go_back.ensures.grows c.host_syncs_catch_up.ensures
