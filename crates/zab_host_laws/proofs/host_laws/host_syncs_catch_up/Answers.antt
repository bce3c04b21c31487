use Rattle.zab_model.specs.Worlds.{profile_of}
use Rattle.zab_host_laws.proofs.Syncs.{syncs_are_caught}
use Rattle.zab_host_laws.proofs.host_laws.host_syncs_catch_up.Goals as goal

pub returns : goal.returns
returns g c = syncs_are_caught (profile_of (g.Q.Quorums.passes c.args._quorums.now) g.P.Primary.made_of g.P.Primary.tag_of g.P.Primary.closing_of) c.syncs_catch_up.ensures c.hosts_are_a_run.ensures
