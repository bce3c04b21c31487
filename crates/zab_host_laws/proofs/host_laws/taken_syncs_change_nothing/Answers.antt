use Rattle.zab_broadcast.specs.Calls.{setting_of}
use Rattle.zab_host_laws.proofs.TakenSyncs.{taken_syncs}
use Rattle.zab_host_laws.proofs.host_laws.taken_syncs_change_nothing.Goals as goal

pub returns : goal.returns
returns g c = taken_syncs (setting_of (g.Q.Quorums.passes c.args._quorums.now) g.P.Primary.made_of g.P.Primary.tag_of)
