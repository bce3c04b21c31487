use Rattle.zab_model.specs.Worlds.{profile_of}
use Rattle.zab_agreement_laws.proofs.AgreeRuns.{runs_agree}
use Rattle.zab_agreement_laws.proofs.laws.runs_agree.Goals as goal

pub returns : goal.returns
returns g c = λ servers events.
    runs_agree (profile_of (g.Q.Quorums.passes c.args._quorums.now) g.P.Primary.made_of g.P.Primary.tag_of g.P.Primary.closing_of)
    g.met.P.Primary.made_zxid (g.met.Q.Quorums.share c.args._quorums.now) servers events
