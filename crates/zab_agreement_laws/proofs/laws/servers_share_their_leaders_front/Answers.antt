use Rattle.zab_model.specs.Worlds.{profile_of}
use Rattle.zab_agreement_laws.proofs.Promises.{servers_share, leaders_end_below}
use Rattle.zab_agreement_laws.proofs.laws.servers_share_their_leaders_front.Goals as goal

pub returns-clause-front : goal.returns-clause-front
returns-clause-front g c = λ servers events.
    servers_share (profile_of (g.Q.Quorums.passes c.args._quorums.now) g.P.Primary.made_of g.P.Primary.tag_of g.P.Primary.closing_of)
    g.met.P.Primary.made_zxid (g.met.Q.Quorums.share c.args._quorums.now) servers events

pub returns-clause-end : goal.returns-clause-end
returns-clause-end g c = λ servers events.
    leaders_end_below (profile_of (g.Q.Quorums.passes c.args._quorums.now) g.P.Primary.made_of g.P.Primary.tag_of g.P.Primary.closing_of)
    g.met.P.Primary.made_zxid (g.met.Q.Quorums.share c.args._quorums.now) servers events
