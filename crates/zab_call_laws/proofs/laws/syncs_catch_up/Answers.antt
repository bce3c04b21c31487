use Rattle.zab_model.specs.Worlds.{profile_of}
use Rattle.zab_call_laws.proofs.SyncRuns.{are_caught}
use Rattle.zab_call_laws.proofs.laws.syncs_catch_up.Goals as goal

pub returns : goal.returns
returns g c = λ servers events.
    are_caught (profile_of (g.Q.Quorums.passes c.args._quorums.now) g.P.Primary.made_of g.P.Primary.tag_of g.P.Primary.closing_of)
    g.met.P.Primary.made_zxid (g.met.Q.Quorums.share c.args._quorums.now) servers events
