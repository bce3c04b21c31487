use Rattle.std.proofs.Common.{◌≡◌, ℕ, List, [], subst}
use Rattle.zk_peer_links.specs.Links.{HearsAll, hearing}
use Rattle.zk_peer_links.specs.declared.arrival.Arrival.{Arrival}
use Rattle.zk_server.specs.Peers.{peer}
use Rattle.zk_server.proofs.LinkedTurning.{ended_as, turn_fails, unheard, unwritten}
use Rattle.zk_server.proofs.linked_peer.LinkedPeer.turn.Goals as goal

pub returns-in_default-clause-stops : goal.returns-in_default-clause-stops
returns-in_default-clause-stops g c = λ running.
    let old = peer c.args.self.now.peer.me c.args.self.now.peer.election c.args.self.now.peer.site in
    let new = peer c.stop.new.self.peer.me c.stop.new.self.peer.election c.stop.new.self.peer.site in
    let links = c.args.self.now.links.links.items in
    unheard g.S.Storage.may_recover g.S.Storage.boots c.args.inputs.now old new links links c.stop.new.self.links.links.items c.hear.new.self.links.items running
    (ended_as old new c.stop.ensures.me c.stop.ensures.election c.stop.ensures.site) c.stop.ensures.links

pub returns-in-Err-clause-stops : goal.returns-in-Err-clause-stops
returns-in-Err-clause-stops g c = λ running.
    let old = peer c.args.self.now.peer.me c.args.self.now.peer.election c.args.self.now.peer.site in
    let new = peer c.turn.new.self.me c.turn.new.self.election c.turn.new.self.site in
    let links = c.args.self.now.links.links.items in
    let between = c.hear.new.self.links.items in
    let inputs = c.args.inputs.now in
    let arrived : c.in-Ok.field-0.arrivals.items ≡ c.deref.result.now = cc in
    let ended : c.in-Ok.field-0.ended.items ≡ c.in-Ok.ended.items = cc in
    let first : HearsAll c.args.self.now.links.me inputs (hearing links [] []) (hearing between c.in-Ok.field-0.arrivals.items c.in-Ok.field-0.ended.items) = c.in-Ok.ensures.hears in
    let hears : HearsAll c.args.self.now.peer.me.number inputs (hearing links [] []) (hearing between c.deref.result.now c.in-Ok.ended.items) =
    subst (λ (m : ℕ). HearsAll m inputs (hearing links [] []) (hearing between c.deref.result.now c.in-Ok.ended.items)) c.args.self.now.mine
    (subst (λ (l : List Arrival). HearsAll c.args.self.now.links.me inputs (hearing links [] []) (hearing between l c.in-Ok.ended.items)) arrived
    (subst (λ (l : List ℕ). HearsAll c.args.self.now.links.me inputs (hearing links [] []) (hearing between c.in-Ok.field-0.arrivals.items l)) ended first)) in
    turn_fails g.S.Storage.may_recover g.S.Storage.boots inputs old new links between c.close_all.new.self.links.items between c.deref.result.now c.in-Ok.ended.items hears
    (c.in-Err.ensures.stops running) c.close_all.ensures.none

pub returns-clause-stops : goal.returns-clause-stops
returns-clause-stops g c = λ running.
    let old = peer c.args.self.now.peer.me c.args.self.now.peer.election c.args.self.now.peer.site in
    let mid = peer c.turn.new.self.me c.turn.new.self.election c.turn.new.self.site in
    let new = peer c.stop-in-Err-write.new.self.peer.me c.stop-in-Err-write.new.self.peer.election c.stop-in-Err-write.new.self.peer.site in
    let links = c.args.self.now.links.links.items in
    let between = c.hear.new.self.links.items in
    let inputs = c.args.inputs.now in
    let arrived : c.in-Ok.field-0.arrivals.items ≡ c.deref.result.now = cc in
    let ended : c.in-Ok.field-0.ended.items ≡ c.in-Ok.ended.items = cc in
    let first : HearsAll c.args.self.now.links.me inputs (hearing links [] []) (hearing between c.in-Ok.field-0.arrivals.items c.in-Ok.field-0.ended.items) = c.in-Ok.ensures.hears in
    let hears : HearsAll c.args.self.now.peer.me.number inputs (hearing links [] []) (hearing between c.deref.result.now c.in-Ok.ended.items) =
    subst (λ (m : ℕ). HearsAll m inputs (hearing links [] []) (hearing between c.deref.result.now c.in-Ok.ended.items)) c.args.self.now.mine
    (subst (λ (l : List Arrival). HearsAll c.args.self.now.links.me inputs (hearing links [] []) (hearing between l c.in-Ok.ended.items)) arrived
    (subst (λ (l : List ℕ). HearsAll c.args.self.now.links.me inputs (hearing links [] []) (hearing between c.in-Ok.field-0.arrivals.items l)) ended first)) in
    unwritten g.S.Storage.may_recover g.S.Storage.boots inputs old new links between c.stop-in-Err-write.new.self.links.links.items c.write.new.self.links.items c.deref.result.now c.in-Ok.ended.items hears
    mid c.in-Ok-turn.posted.messages c.in-Ok-turn.ensures.turns
    (ended_as mid new c.stop-in-Err-write.ensures.me c.stop-in-Err-write.ensures.election c.stop-in-Err-write.ensures.site) c.stop-in-Err-write.ensures.links
