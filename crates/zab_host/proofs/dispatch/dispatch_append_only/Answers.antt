use Rattle.zab_broadcast.specs.Calls.{setting_of}
use Rattle.zab_host.proofs.Growth.{receive_grows}
use Rattle.zab_host.proofs.dispatch.dispatch_append_only.Goals as goal

pub returns-clause-grows : goal.returns-clause-grows
returns-clause-grows g c =
    receive_grows (setting_of (g.Q.Quorums.passes c.args.quorums.now) g.P.Primary.made_of g.P.Primary.tag_of) c.args.server.now c.dispatch.new.server c.args.from c.args.body.now c.dispatch.result c.requires.append_only c.dispatch.ensures.acts c.dispatch.ensures.unchanged
