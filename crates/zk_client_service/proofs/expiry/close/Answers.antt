use Rattle.std.proofs.Common.{◌≡◌, rules, ℕ, ℤ, Option, Result, to_z, of_z, w64, sym, subst}
use Rattle.zab_host.specs.Hosts.{Submits, StepsTo}
use Rattle.zk_client_port.proofs.Requesting.{requested}
use Rattle.zk_client_port.specs.Execution.{RequestsTo}
use Rattle.zk_client_port.specs.declared.fault.ServeFault.{ServeFault}
use Rattle.zk_client_service.specs.Expiries.{closing}
use Rattle.zk_peers.specs.Hosts.{setting_for}
use Rattle.zk_requests.specs.Requests.{closing_call}
use Rattle.zk_requests.specs.declared.call.Call.{Call}
use Rattle.zk_client_service.proofs.expiry.close.Goals as goal

pub returns : goal.returns
returns g c =
    let now_fits : to_z w64 (of_z w64 c.args.now) ≡ c.args.now = search rules in
    let session_fits : to_z w64 (of_z w64 c.args.session) ≡ c.args.session = search rules in
    let call_is : c.closing_call.result ≡ closing_call c.in-Some.tag c.args.session c.args.now =
    subst (λ (session : ℤ). c.closing_call.result ≡ closing_call c.in-Some.tag session c.args.now) session_fits
    (subst (λ (now : ℤ). c.closing_call.result ≡ closing_call c.in-Some.tag (to_z w64 (of_z w64 c.args.session)) now) now_fits c.closing_call.ensures) in
    let steps : StepsTo (setting_for c.args.quorums.now.servers) c.issue_tag.new.self.host (Submits c.closing_call.result) c.submit-stepped.new.self.host c.submit-stepped.result = search rules in
    subst (λ (it : Result (Option ℕ) ServeFault). RequestsTo (setting_for c.args.quorums.now.servers) (closing c.args.session c.args.now) c.args.host.now c.submit-stepped.new.self it) (sym c.tag_after.ensures)
    (requested (setting_for c.args.quorums.now.servers) (closing c.args.session c.args.now) c.args.host.now c.issue_tag.new.self c.submit-stepped.new.self
    c.in-Some.tag c.in-Some.ensures.tag c.in-Some.ensures.counted c.issue_tag.ensures.rest c.submit-stepped.ensures.rest c.submit-stepped.result
    (subst (λ (call : Call). StepsTo (setting_for c.args.quorums.now.servers) c.issue_tag.new.self.host (Submits call) c.submit-stepped.new.self.host c.submit-stepped.result) call_is steps))
