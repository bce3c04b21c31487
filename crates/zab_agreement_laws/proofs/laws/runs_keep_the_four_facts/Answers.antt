use Rattle.zab_model.specs.Worlds.{profile_of}
use Rattle.zab_agreement_laws.proofs.FactRuns.{one_leader, acknowledged_lasts, begins_with_its_epoch, delivered_was_acknowledged}
use Rattle.zab_agreement_laws.proofs.laws.runs_keep_the_four_facts.Goals as goal

pub returns-clause-one_leader_an_epoch : goal.returns-clause-one_leader_an_epoch
returns-clause-one_leader_an_epoch g c = λ servers events.
    one_leader (profile_of (g.Q.Quorums.passes c.args._quorums.now) g.P.Primary.made_of g.P.Primary.tag_of g.P.Primary.closing_of)
    g.met.P.Primary.made_zxid (g.met.Q.Quorums.share c.args._quorums.now) servers events

pub returns-clause-what_a_quorum_acknowledged_lasts : goal.returns-clause-what_a_quorum_acknowledged_lasts
returns-clause-what_a_quorum_acknowledged_lasts g c = λ servers events.
    acknowledged_lasts (profile_of (g.Q.Quorums.passes c.args._quorums.now) g.P.Primary.made_of g.P.Primary.tag_of g.P.Primary.closing_of)
    g.met.P.Primary.made_zxid (g.met.Q.Quorums.share c.args._quorums.now) servers events

pub returns-clause-a_history_begins_with_its_epoch : goal.returns-clause-a_history_begins_with_its_epoch
returns-clause-a_history_begins_with_its_epoch g c = λ servers events.
    begins_with_its_epoch (profile_of (g.Q.Quorums.passes c.args._quorums.now) g.P.Primary.made_of g.P.Primary.tag_of g.P.Primary.closing_of)
    g.met.P.Primary.made_zxid (g.met.Q.Quorums.share c.args._quorums.now) servers events

pub returns-clause-what_is_delivered_was_acknowledged : goal.returns-clause-what_is_delivered_was_acknowledged
returns-clause-what_is_delivered_was_acknowledged g c = λ servers events.
    delivered_was_acknowledged (profile_of (g.Q.Quorums.passes c.args._quorums.now) g.P.Primary.made_of g.P.Primary.tag_of g.P.Primary.closing_of)
    g.met.P.Primary.made_zxid (g.met.Q.Quorums.share c.args._quorums.now) servers events
