use Rattle.zab_model.specs.Worlds.{profile_of}
use Rattle.zab_host_laws.proofs.Forgetting.{event_past, run_past}
use Rattle.zab_host_laws.proofs.recovery_laws.forgetting_is_faithful.Goals as goal

pub returns-clause-one : goal.returns-clause-one
returns-clause-one g c = λ past w event new.
    event_past (profile_of (g.Q.Quorums.passes c.args._quorums.now) g.P.Primary.made_of g.P.Primary.tag_of g.P.Primary.closing_of) past w event new

pub returns-clause-all : goal.returns-clause-all
returns-clause-all g c = λ past w events new.
    run_past (profile_of (g.Q.Quorums.passes c.args._quorums.now) g.P.Primary.made_of g.P.Primary.tag_of g.P.Primary.closing_of) past w events new
