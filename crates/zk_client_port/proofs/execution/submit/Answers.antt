use Rattle.std.proofs.Common.{Result, Option, ℕ, rules, subst, sym}
use Rattle.zk_client_port.proofs.Requesting.{requested}
use Rattle.zk_client_port.specs.Execution.{call_of, RequestsTo}
use Rattle.zk_client_port.specs.declared.fault.ServeFault.{ServeFault}
use Rattle.zk_model.specs.Ensembles.{profile_by}
use Rattle.zk_client_port.proofs.execution.submit.Goals as goal

pub returns : goal.returns
returns g c =
    subst (λ (it : Result (Option ℕ) ServeFault). RequestsTo (profile_by (g.Q.Quorums.passes c.args.quorums.now)).setting (call_of c.args.session c.args.cxid c.args.auths c.args.now c.args.request) c.args.host.now c.submit-stepped.new.self it) (sym c.tag_after.ensures)
    (requested (profile_by (g.Q.Quorums.passes c.args.quorums.now)).setting (call_of c.args.session c.args.cxid c.args.auths c.args.now c.args.request) c.args.host.now c.issue_tag.new.self c.submit-stepped.new.self
    c.in-Some.tag c.in-Some.ensures.tag c.in-Some.ensures.counted c.issue_tag.ensures.rest c.submit-stepped.ensures.rest c.submit-stepped.result (search rules))
