use Rattle.std.proofs.Common.{◌≡◌, ◌∙◌, rules, ℕ, ℤ, List, to_z, of_z, w64, ap, subst}
use Rattle.zk_client_port.specs.Turns.{server}
use Rattle.zk_quorum_server.specs.Turns.{without_numbers, WritesAll}
use Rattle.zk_quorum_server.proofs.Serving.{writes_all}
use Rattle.zk_quorum_server.proofs.turn.write.Goals as goal

pub returns-in-Ok-clause-writes : goal.returns-in-Ok-clause-writes
returns-in-Ok-clause-writes g c =
    let fits : to_z w64 (of_z w64 c.args.now) ≡ c.args.now = search rules in
    let shown : c.deref.result.now ≡ c.in-Ok.turned.displaced.items = search rules in
    let old = server c.args.host.now c.args.port.now.hub c.args.port.now.connections.items c.args.admission.now in
    subst (λ (now : ℤ). WritesAll now old (server c.release.new.host c.cut_off_numbers.new.port.hub c.cut_off_numbers.new.port.connections.items c.release.new.admission)) fits
    (writes_all (to_z w64 (of_z w64 c.args.now)) old c.release.new.host c.release.new.self.hub c.cut_off_numbers.new.port.hub c.release.new.self.connections.items c.cut_off_numbers.new.port.connections.items
    c.release.new.admission c.in-Ok.turned.displaced.items c.in-Ok.turned.closed.items c.in-Ok.ensures.writes c.cut_off_numbers.ensures.hub
    (c.cut_off_numbers.ensures.connections ∙ ap (λ (its : List ℕ). without_numbers its c.release.new.self.connections.items) shown))
