use Rattle.std.proofs.Common.{rules, sym, subst}
use Rattle.zk_client_port.proofs.Requesting.{asks}
use Rattle.zk_client_port.specs.Execution.{call_of, served, ExecutesTo}
use Rattle.zk_client_port.specs.declared.demand.Demand.{Demand}
use Rattle.zk_model.specs.Ensembles.{profile_by}
use Rattle.zk_client_port.proofs.execution.execute.Goals as goal

pub returns-in_ok-tag-in-Submit : goal.returns-in_ok-tag-in-Submit
returns-in_ok-tag-in-Submit g c =
    subst (λ (demand : Demand). ExecutesTo (profile_by (g.Q.Quorums.passes c.args.quorums.now)).setting c.args.moment demand (served c.args.host.now c.args.hub.now c.args.connection.now) (served c.submit.new.host c.push.new.hub c.args.connection.now) c.push.result)
    (sym c.in-Submit.is)
    (asks (profile_by (g.Q.Quorums.passes c.args.quorums.now)).setting (call_of c.in-Submit.session c.in-Submit.cxid c.in-Submit.auths c.args.moment.now c.in-Submit.request) c.in-Submit.expected
    (served c.args.host.now c.args.hub.now c.args.connection.now) (served c.submit.new.host c.push.new.hub c.args.connection.now) c.push.result
    (record { tag = c.in_ok-tag-in-Submit.tag; requests = search rules; pushes = search rules; connection = search rules }))
