use Rattle.std.proofs.Common.{◌∙◌, rules, ℤ, List, Result, to_z, of_z, w64, ap, refl, sym, subst}
use Rattle.zab_epoch.specs.declared.message.Message.{Message}
use Rattle.zk_requests.specs.declared.call.Call.{Call}
use Rattle.zk_client_port.specs.Turns.{server}
use Rattle.zk_server.specs.declared.site.Site.{Site}
use Rattle.zk_server.specs.declared.stopped.Stopped.{Stopped}
use Rattle.zk_quorum_server.specs.Servers.{with_clients, Ran, Stops}
use Rattle.zk_server.specs.Peers.{peer}
use Rattle.zk_quorum_server.specs.Turns.{HasServed}
use Rattle.zk_quorum_server.proofs.Results.{on_err_any}
use Rattle.zk_quorum_server.proofs.Settling.{ran_err, ran_ok}
use Rattle.zk_quorum_server.proofs.server.Server.turn.Goals as goal

pub run-site-requires-clause-ready : goal.run-site-requires-clause-ready
run-site-requires-clause-ready g c = c.args.self.now.rests.ready c.in-Ok.host (sym c.replace.ensures.value ∙ c.in-Ok.ensures.runs)

pub run-site-requires-clause-written : goal.run-site-requires-clause-written
run-site-requires-clause-written g c = c.args.self.now.rests.written c.in-Ok.host (sym c.replace.ensures.value ∙ c.in-Ok.ensures.runs)

pub returns-in_err-messages-in-Ok-clause-stops : goal.returns-in_err-messages-in-Ok-clause-stops
returns-in_err-messages-in-Ok-clause-stops g c =
    let may_recover = g.S.Storage.may_recover in
    let boots = g.S.Storage.boots in
    let old = c.args.self.now in
    let arrivals = c.args.arrivals.now in
    let why = c.in_err-messages-in-Ok.field-0.0 in
    let it = ran_err may_recover boots old.me arrivals (to_z w64 (of_z w64 c.args.now)) old.election c.run-site.new.election (server c.in-Ok.host old.port.hub old.port.connections.items old.admission)
    c.run-site.new.port.hub c.run-site.new.port.connections.items c.run-site.new.admission c.run-site.result.0 why
    (subst (λ (r : Result (List (Message Call)) Stopped). Ran may_recover boots old.me arrivals (to_z w64 (of_z w64 c.args.now)) old.election (server c.in-Ok.host old.port.hub old.port.connections.items old.admission)
    c.run-site.new.election c.run-site.new.port.hub c.run-site.new.port.connections.items c.run-site.new.admission c.run-site.result.0 r) c.in_err-messages-in-Ok.was c.run-site.ensures) in
    λ running. on_err_any c.from_residual.result (Stops may_recover boots arrivals (with_clients (peer old.me old.election old.site) old.port.hub old.port.connections.items old.admission)
    (with_clients (peer old.me c.run-site.new.election c.run-site.result.0) c.run-site.new.port.hub c.run-site.new.port.connections.items c.run-site.new.admission))
    record {
      me = refl;
      before = c.in-Ok.host;
      storage = it.storage;
      ran = sym c.replace.ensures.value ∙ c.in-Ok.ensures.runs;
      stopped = it.stopped;
      failed = it.failed;
      requests = it.requests;
      closed = it.closed;
    }

pub returns-in_ok-messages-in-Ok-clause-turns : goal.returns-in_ok-messages-in-Ok-clause-turns
returns-in_ok-messages-in-Ok-clause-turns g c =
    let may_recover = g.S.Storage.may_recover in
    let boots = g.S.Storage.boots in
    let old = c.args.self.now in
    let arrivals = c.args.arrivals.now in
    let messages = c.in_ok-messages-in-Ok.messages in
    let it = ran_ok may_recover boots old.me arrivals (to_z w64 (of_z w64 c.args.now)) old.election c.run-site.new.election (server c.in-Ok.host old.port.hub old.port.connections.items old.admission)
    c.run-site.new.port.hub c.run-site.new.port.connections.items c.run-site.new.admission c.run-site.result.0 messages
    (subst (λ (r : Result (List (Message Call)) Stopped). Ran may_recover boots old.me arrivals (to_z w64 (of_z w64 c.args.now)) old.election (server c.in-Ok.host old.port.hub old.port.connections.items old.admission)
    c.run-site.new.election c.run-site.new.port.hub c.run-site.new.port.connections.items c.run-site.new.admission c.run-site.result.0 r) c.in_ok-messages-in-Ok.was c.run-site.ensures) in
    record {
      me = refl;
      before = c.in-Ok.host;
      after = it.after;
      ran = sym c.replace.ensures.value ∙ c.in-Ok.ensures.runs;
      runs = it.runs;
      turned = subst (λ (now : ℤ). HasServed may_recover boots old.me arrivals now old.election (server c.in-Ok.host old.port.hub old.port.connections.items old.admission) c.run-site.new.election
          (server it.after c.run-site.new.port.hub c.run-site.new.port.connections.items c.run-site.new.admission) messages) (search rules) it.turned;
    }

pub returns-in-Err-clause-idle : goal.returns-in-Err-clause-idle
returns-in-Err-clause-idle g c = λ stopped. (
  refl,
  ap (λ (site : Site _). with_clients (peer c.args.self.now.me c.args.self.now.election site) c.args.self.now.port.hub c.args.self.now.port.connections.items c.args.self.now.admission)
      (sym c.in-Err.ensures.stopped ∙ c.replace.ensures.value),
)
