use Rattle.zab_model.specs.Worlds.{profile_of}
use Rattle.zab_host_laws.proofs.Agreeing.{agree}
use Rattle.zab_host_laws.proofs.agreement_laws.recoveries_agree.Goals as goal

pub returns : goal.returns
returns g c =
    agree (profile_of (g.Q.Quorums.passes c.args._quorums.now) g.P.Primary.made_of g.P.Primary.tag_of g.P.Primary.closing_of) c.runs_agree.ensures c.recovery_continues_the_run.ensures.lives
