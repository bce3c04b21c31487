use Rattle.zab_model.specs.Worlds.{profile_of}
use Rattle.zab_host_laws.proofs.HostRuns.{hosts_are}
use Rattle.zab_host_laws.proofs.recovery_laws.hosts_are_a_run.Goals as goal

pub returns : goal.returns
returns g c = hosts_are (profile_of (g.Q.Quorums.passes c.args._quorums.now) g.P.Primary.made_of g.P.Primary.tag_of g.P.Primary.closing_of)
