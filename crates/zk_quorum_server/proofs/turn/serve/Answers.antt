use Rattle.std.proofs.Common.{◌≡◌, ◌∙◌, rules, ℤ, map, to_z, of_z, w64, ap, subst}
use Rattle.zk_client_port.specs.Turns.{server}
use Rattle.zk_quorum_server.specs.Turns.{begun, mode_of, ServesClients}
use Rattle.zk_quorum_server.proofs.Serving.{serves_clients}
use Rattle.zk_quorum_server.proofs.turn.serve.Goals as goal

pub returns-clause-serves : goal.returns-clause-serves
returns-clause-serves g c =
    let fits : to_z w64 (of_z w64 c.args.now) ≡ c.args.now = search rules in
    let new = server c.serve_all.new.host c.serve_all.new.self.hub c.serve_all.new.self.connections.items c.serve_all.new.admission in
    subst (λ (now : ℤ). ServesClients c.args.me now (server c.args.host.now c.args.port.now.hub c.args.port.now.connections.items c.args.admission.now) new) fits
    (serves_clients (to_z w64 (of_z w64 c.args.now)) c.args.me c.args.host.now c.args.port.now.hub c.cut_off_unserved.new.port.hub c.args.port.now.connections.items c.begin_turns.new.connections.items
    c.args.admission.now c.from.result c.len.result c.mode_of.result new c.cut_off_unserved.ensures.hub
    (c.begin_turns.ensures ∙ ap (map begun) c.cut_off_unserved.ensures.connections) (search rules) (c.mode_of.ensures ∙ ap mode_of c.role.ensures) (search rules) c.in_ok-serve_all.ensures.serves)
