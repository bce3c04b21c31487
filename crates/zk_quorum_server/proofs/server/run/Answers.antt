use Rattle.std.proofs.Common.{◌≡◌, rules, ℤ, to_z, of_z, w64, subst}
use Rattle.zk_client_port.specs.Turns.{server}
use Rattle.zk_quorum_server.specs.Turns.{HasServed}
use Rattle.zk_quorum_server.proofs.Settling.{served_on}
use Rattle.zk_quorum_server.proofs.server.run.Goals as goal

pub returns-in-Ok : goal.returns-in-Ok
returns-in-Ok g c =
    let fits : to_z w64 (of_z w64 c.args.now) ≡ c.args.now = search rules in
    let old = server c.args.host c.args.port.now.hub c.args.port.now.connections.items c.args.admission.now in
    let hub = c.step-turned.new.port.hub in
    let connections = c.step-turned.new.port.connections.items in
    subst (λ (now : ℤ). HasServed g.S.Storage.may_recover g.S.Storage.boots c.args.me c.args.arrivals.now now c.args.election.now old c.step-turned.new.election
    (server c.with_room-host.result hub connections c.step-turned.new.admission) c.in-Ok.messages) fits
    (served_on g.S.Storage.may_recover g.S.Storage.boots c.args.me c.args.arrivals.now (to_z w64 (of_z w64 c.args.now)) c.args.election.now c.step-turned.new.election old hub connections
    c.step-turned.new.admission c.step-turned.new.host c.with_room-host.result c.in-Ok.messages c.with_room-host.ensures.same c.with_room-host.ensures.room c.in-Ok.ensures.turns)
