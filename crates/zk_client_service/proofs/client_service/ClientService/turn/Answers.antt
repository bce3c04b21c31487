use Rattle.std.proofs.Common.{◌≡◌, rules, ℤ, to_z, of_z, w64, subst, Bool, refl}
use Rattle.zk_client_service.proofs.Turning.{if_ok}
use Rattle.zk_client_service.specs.Ensembles.{ensemble}
use Rattle.zk_client_service.specs.Rounds.{has_messages, FailedTurn, OneTurn, TurnsHost, TurnsTo}
use Rattle.zk_peers.specs.Peers.{host_at}
use Rattle.zk_client_service.proofs.client_service.ClientService.turn.Goals as goal

pub returns-in-Ok : goal.returns-in-Ok
returns-in-Ok g c =
    let fits : to_z w64 (of_z w64 c.args.now) ≡ c.args.now = search rules in
    if_ok (λ (waits : Bool). waits ≡ has_messages (host_at c.post.new.self.peers.places.items c.args.server)) (λ (waits : Bool). TurnsTo g.S.Storage.may_recover g.S.Storage.boots c.args.server c.args.now (ensemble c.args.self.now) (ensemble c.post.new.self) waits)
    c.post.result c.post.ensures.posts c.post.ensures.waits
    (λ waits posts has. OneTurn c.in-Ok.turned.displaced.items c.in-Ok.turned.messages (ensemble c.turn_host.new.self)
    (subst (λ (now : ℤ). TurnsHost c.args.server now (ensemble c.args.self.now) (ensemble c.turn_host.new.self) c.in-Ok.turned.displaced.items c.in-Ok.turned.messages) fits c.in-Ok.ensures) posts has)

pub returns-in_ok-stop-in-Err : goal.returns-in_ok-stop-in-Err
returns-in_ok-stop-in-Err g c = FailedTurn (ensemble c.turn_host.new.self) c.stop_of.result c.in-Err.ensures c.in_ok-stop-in-Err.ensures refl
