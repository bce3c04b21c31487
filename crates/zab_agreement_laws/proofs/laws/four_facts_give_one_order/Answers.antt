use Rattle.zab_model.specs.Worlds.{profile_of}
use Rattle.zab_agreement_laws.proofs.OneOrder.{facts_give_one_order}
use Rattle.zab_agreement_laws.proofs.laws.four_facts_give_one_order.Goals as goal

pub returns : goal.returns
returns g c = λ servers events.
    facts_give_one_order (profile_of (g.Q.Quorums.passes c.args._quorums.now) g.P.Primary.made_of g.P.Primary.tag_of g.P.Primary.closing_of)
    (g.met.Q.Quorums.share c.args._quorums.now) servers events
