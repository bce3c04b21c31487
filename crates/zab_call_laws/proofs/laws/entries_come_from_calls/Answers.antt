use Rattle.zab_model.specs.Worlds.{profile_of}
use Rattle.zab_call_laws.proofs.Origins.{come_from_calls}
use Rattle.zab_call_laws.proofs.laws.entries_come_from_calls.Goals as goal

pub returns : goal.returns
returns g c = λ servers events.
    come_from_calls (profile_of (g.Q.Quorums.passes c.args._quorums.now) g.P.Primary.made_of g.P.Primary.tag_of g.P.Primary.closing_of)
    g.met.P.Primary.made_tag g.met.P.Primary.made_zxid (g.met.Q.Quorums.share c.args._quorums.now) servers events
