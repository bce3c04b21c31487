use Rattle.zab_model.specs.Worlds.{profile_of}
use Rattle.zab_host_laws.proofs.Others.{only_its, front_left}
use Rattle.zab_host_laws.proofs.recovery_laws.crashes_leave_a_prefix.Goals as goal

pub returns-clause-one_server : goal.returns-clause-one_server
returns-clause-one_server g c = only_its (profile_of (g.Q.Quorums.passes c.args._quorums.now) g.P.Primary.made_of g.P.Primary.tag_of g.P.Primary.closing_of)

pub returns-clause-front : goal.returns-clause-front
returns-clause-front g c = front_left (profile_of (g.Q.Quorums.passes c.args._quorums.now) g.P.Primary.made_of g.P.Primary.tag_of g.P.Primary.closing_of)
