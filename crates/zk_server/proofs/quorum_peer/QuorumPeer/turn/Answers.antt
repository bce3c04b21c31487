use Rattle.std.proofs.Common.{◌∙◌, List, Result, ap, refl, sym, subst}
use Rattle.zab_epoch.specs.declared.message.Message.{Message}
use Rattle.zk_requests.specs.declared.call.Call.{Call}
use Rattle.zk_server.specs.declared.stopped.Stopped.{Stopped}
use Rattle.zk_server.specs.Peers.{Stops, peer}
use Rattle.zk_server.specs.Turns.{Ran}
use Rattle.zk_server.proofs.Results.{on_err_any}
use Rattle.zk_server.proofs.Settling.{ran_err, ran_ok}
use Rattle.zk_server.proofs.quorum_peer.QuorumPeer.turn.Goals as goal

pub run-site-requires : goal.run-site-requires
run-site-requires g c = c.args.self.now.settled.ready c.in-Ok.host (sym c.replace.ensures.value ∙ c.in-Ok.ensures.runs)

pub returns-in_err-messages-in-Ok-clause-stops : goal.returns-in_err-messages-in-Ok-clause-stops
returns-in_err-messages-in-Ok-clause-stops g c =
    let may_recover = g.S.Storage.may_recover in
    let boots = g.S.Storage.boots in
    let old = c.args.self.now in
    let arrivals = c.args.arrivals.now in
    let why = c.in_err-messages-in-Ok.field-0.0 in
    let ran = subst (λ (r : Result (List (Message Call)) Stopped). Ran may_recover boots old.me arrivals old.election c.in-Ok.host c.run-site.new.election c.run-site.result.0 r) c.in_err-messages-in-Ok.was c.run-site.ensures in
    let it = ran_err may_recover boots old.me arrivals old.election c.run-site.new.election c.in-Ok.host c.run-site.result.0 why ran in
    λ running. on_err_any c.from_residual.result (Stops may_recover boots arrivals (peer old.me old.election old.site) (peer old.me c.run-site.new.election c.run-site.result.0))
    record {
      me = refl;
      before = c.in-Ok.host;
      storage = it.storage;
      ran = sym c.replace.ensures.value ∙ c.in-Ok.ensures.runs;
      stopped = it.stopped;
      failed = it.failed;
    }

pub returns-in_ok-messages-in-Ok-clause-turns : goal.returns-in_ok-messages-in-Ok-clause-turns
returns-in_ok-messages-in-Ok-clause-turns g c =
    let may_recover = g.S.Storage.may_recover in
    let boots = g.S.Storage.boots in
    let old = c.args.self.now in
    let arrivals = c.args.arrivals.now in
    let messages = c.in_ok-messages-in-Ok.messages in
    let ran = subst (λ (r : Result (List (Message Call)) Stopped). Ran may_recover boots old.me arrivals old.election c.in-Ok.host c.run-site.new.election c.run-site.result.0 r) c.in_ok-messages-in-Ok.was c.run-site.ensures in
    let it = ran_ok may_recover boots old.me arrivals old.election c.run-site.new.election c.in-Ok.host c.run-site.result.0 messages ran in
    record {
      me = refl;
      before = c.in-Ok.host;
      after = it.after;
      ran = sym c.replace.ensures.value ∙ c.in-Ok.ensures.runs;
      runs = it.runs;
      turned = it.turned;
    }

pub returns-in-Err-clause-idle : goal.returns-in-Err-clause-idle
returns-in-Err-clause-idle g c = λ stopped. (refl, ap (peer c.args.self.now.me c.args.self.now.election) (sym c.in-Err.ensures.stopped ∙ c.replace.ensures.value))
