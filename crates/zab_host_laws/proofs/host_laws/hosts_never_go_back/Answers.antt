use Rattle.zab_model.specs.Worlds.{profile_of}
use Rattle.zab_host_laws.proofs.Growing.{only_grow, never_back}
use Rattle.zab_host_laws.proofs.host_laws.hosts_never_go_back.Goals as goal

pub returns-clause-grows : goal.returns-clause-grows
returns-clause-grows g c = only_grow (profile_of (g.Q.Quorums.passes c.args._quorums.now) g.P.Primary.made_of g.P.Primary.tag_of g.P.Primary.closing_of) c.runs_agree.ensures

pub returns-clause-back : goal.returns-clause-back
returns-clause-back g c = never_back (profile_of (g.Q.Quorums.passes c.args._quorums.now) g.P.Primary.made_of g.P.Primary.tag_of g.P.Primary.closing_of) c.runs_agree.ensures
