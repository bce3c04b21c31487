use Rattle.std.proofs.Common.{◌≡◌, ◌∙◌, rules, ℕ, ℤ, List, map, ap, to_z, of_z, w64}
use Rattle.zk_client_port.proofs.Turning.{writes_released}
use Rattle.zk_client_port.specs.Ports.{closed_if}
use Rattle.zk_client_port.specs.Sessions.{after_ends}
use Rattle.zk_client_port.specs.Turns.{clients, server, synced, written}
use Rattle.zk_hub.specs.Deliveries.{left_after, outputs_of}
use Rattle.zk_client_port.proofs.client_port.ClientPort.release.Goals as goal

pub returns-clause-writes : goal.returns-clause-writes
returns-clause-writes g c =
    let before_fits : to_z w64 (of_z w64 c.last-before.result) ≡ c.last-before.result = search rules in
    let last_fits : to_z w64 (of_z w64 c.last-last.result) ≡ c.last-last.result = search rules in
    let now_fits : to_z w64 (of_z w64 c.args.now) ≡ c.args.now = search rules in
    let first = rw (before_fits, now_fits) at c.in_ok-write.ensures.written in
    let second = rw (last_fits, now_fits) at c.in_ok-write-2.ensures.written in
    writes_released c.args.now (server c.args.host.now c.args.self.now.hub c.args.self.now.connections.items c.args.admission.now)
    (server c.synced.new.host c.end_sessions.new.self.hub c.end_sessions.new.self.connections.items c.end_sessions.new.admission) c.release.new.host c.last-before.result c.last-last.result c.replace-outputs.result.items c.in-Ok.synced.items
    c.replace-closed.result.items c.release.new.hub (clients c.write.new.self.connections.items c.write.new.admission c.write.new.displaced.items)
    (clients c.write-2.new.self.connections.items c.write-2.new.admission c.write-2.new.displaced.items)
    (record { state = search rules; outbox = search rules; tree = search rules; shown = search rules; tags = search rules })
    c.in-Ok.ensures.syncs c.last-before.ensures c.last-last.ensures (rw c.replace-outputs.ensures.value c.in_ok-released.ensures.outputs) c.in_ok-released.ensures.hub
    (c.in-Ok.ensures.outputs ∙ ap (outputs_of (map synced c.release.new.host.host.state.caught)) c.write.ensures.hub)
    (c.end_sessions.ensures.hub ∙ c.write-2.ensures.hub ∙ c.in-Ok.ensures.hub ∙ ap (left_after (map synced c.release.new.host.host.state.caught)) c.write.ensures.hub)
    (rw c.replace-closed.ensures.value c.in_ok-released.ensures.closed)
    (first ∙ ap (λ (its : List ℕ). written c.last-before.result c.args.now c.replace-outputs.result.items (clients c.args.self.now.connections.items c.args.admission.now its)) c.new-displaced.ensures.items)
    (rw (← c.in-Ok.ensures.connections) second)
    (c.end_sessions.ensures.connections ∙ ap (λ (its : List ℤ). map (closed_if its) c.write-2.new.self.connections.items) c.deref.ensures.value)
    (c.end_sessions.ensures.sessions ∙ ap (λ (its : List ℤ). record c.write-2.new.admission { sessions = after_ends its c.write-2.new.admission.sessions }) c.deref.ensures.value)
