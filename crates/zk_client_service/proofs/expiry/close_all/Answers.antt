use Rattle.std.proofs.Common.{◌≡◌, ◌+◌, rules, ℤ, List, pos, drop, get_or, to_z, of_z, w64, sym, subst}
use Rattle.std.proofs.lemmas.List.{drop_more}
use Rattle.zk_client_port.specs.Execution.{RequestsTo}
use Rattle.zk_client_service.proofs.Expiring.{closes_next}
use Rattle.zk_client_service.specs.Expiries.{closing, Closes}
use Rattle.zk_peers.specs.Hosts.{setting_for}
use Rattle.zk_client_service.proofs.expiry.close_all.Goals as goal

pub loop-session-preserved : goal.loop-session-preserved
loop-session-preserved g c = λ last rest.
    let at = c.loop-session.session-index in
    let session : ℤ = get_or c.args.sessions.now at (pos 0) in
    let fits : to_z w64 (of_z w64 session) ≡ session = search rules in
    let asks : RequestsTo (setting_for c.args.quorums.now.servers) (closing session (to_z w64 (of_z w64 c.args.now))) c.loop-session.host c.close.new.host c.close.result =
    subst (λ (one : ℤ). RequestsTo (setting_for c.args.quorums.now.servers) (closing one (to_z w64 (of_z w64 c.args.now))) c.loop-session.host c.close.new.host c.close.result) fits c.close.ensures in
    c.loop-session.invariant last
    (subst (λ (its : List ℤ). Closes (setting_for c.args.quorums.now.servers) (to_z w64 (of_z w64 c.args.now)) its c.loop-session.host last) (sym (drop_more c.args.sessions.now at (pos 0) c.loop-session-test.true))
    (closes_next (setting_for c.args.quorums.now.servers) (to_z w64 (of_z w64 c.args.now)) session (drop (at + 1) c.args.sessions.now) c.loop-session.host c.close.new.host last c.close.result asks rest))
