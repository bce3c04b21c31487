use Rattle.zab_model.specs.Worlds.{profile_of}
use Rattle.zab_host_laws.proofs.HostsAgreeing.{hosts_agree}
use Rattle.zab_host_laws.proofs.agreement_laws.hosts_agree.Goals as goal

pub returns : goal.returns
returns g c = hosts_agree (profile_of (g.Q.Quorums.passes c.args._quorums.now) g.P.Primary.made_of g.P.Primary.tag_of g.P.Primary.closing_of) c.runs_agree.ensures
