use Rattle.zab_broadcast.specs.Calls.{setting_of}
use Rattle.zab_call_laws.proofs.Counters.{submits_stop, requests_stop}
use Rattle.zab_call_laws.proofs.laws.full_leaders_stop.Goals as goal

pub returns-clause-submit : goal.returns-clause-submit
returns-clause-submit g c = submits_stop (setting_of (g.Q.Quorums.passes c.args._quorums.now) g.P.Primary.made_of g.P.Primary.tag_of)

pub returns-clause-request : goal.returns-clause-request
returns-clause-request g c = requests_stop (setting_of (g.Q.Quorums.passes c.args._quorums.now) g.P.Primary.made_of g.P.Primary.tag_of)
