use Rattle.zab_broadcast.specs.Calls.{setting_of}
use Rattle.zab_host_laws.proofs.Prefixes.{crashes_leave}
use Rattle.zab_host_laws.proofs.host_laws.crashes_leave_input_prefixes.Goals as goal

pub returns : goal.returns
returns g c = crashes_leave (setting_of (g.Q.Quorums.passes c.args._quorums.now) g.P.Primary.made_of g.P.Primary.tag_of)
