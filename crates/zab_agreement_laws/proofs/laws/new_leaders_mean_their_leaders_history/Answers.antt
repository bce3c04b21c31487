use Rattle.zab_model.specs.Worlds.{profile_of}
use Rattle.zab_agreement_laws.proofs.Promises.{new_leaders_mean}
use Rattle.zab_agreement_laws.proofs.laws.new_leaders_mean_their_leaders_history.Goals as goal

pub returns : goal.returns
returns g c = λ servers events.
    new_leaders_mean (profile_of (g.Q.Quorums.passes c.args._quorums.now) g.P.Primary.made_of g.P.Primary.tag_of g.P.Primary.closing_of)
    g.met.P.Primary.made_zxid (g.met.Q.Quorums.share c.args._quorums.now) servers events
