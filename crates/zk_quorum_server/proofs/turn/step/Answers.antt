use Rattle.std.proofs.Common.{◌≡◌, rules, ℤ, List, Result, Ok, to_z, of_z, w64, subst}
use Rattle.std.specs.Prelude.{IfOk, OnOk}
use Rattle.zab_epoch.specs.declared.message.Message.{Message}
use Rattle.zab_host.specs.Hosts.{IsStored}
use Rattle.zk_client_port.specs.Turns.{server}
use Rattle.zk_requests.specs.declared.call.Call.{Call}
use Rattle.zk_server.specs.declared.stopped.Stopped.{Stopped}
use Rattle.zk_quorum_server.proofs.Turning.{asking_fails, served, writing_fails}
use Rattle.zk_quorum_server.specs.Turns.{HasRoom, HasStopped, ServesClients, WritesAll}
use Rattle.zk_quorum_server.proofs.Results.{if_ok_all, on_err_any}
use Rattle.zk_quorum_server.proofs.turn.step.Goals as goal

pub returns-clause-stops : goal.returns-clause-stops
returns-clause-stops g c =
    let may_recover = g.S.Storage.may_recover in
    let boots = g.S.Storage.boots in
    on_err_any c.write.result (HasRoom c.write.new.host → HasStopped may_recover boots c.args.me c.args.arrivals.now c.args.host.now c.write.new.host.host.storage)
    (λ room. writing_fails may_recover boots c.args.me c.args.arrivals.now c.args.host.now c.requires.ready c.requires.written c.stores_keep_first_inputs.ensures
    c.hear.new.host c.in_ok-hear.ensures.hears c.hear.new.election c.decide.new.election c.decide.new.host c.in_ok-decide.ensures.decides
    c.serve.new.host c.write.new.host c.in_ok-serve.ensures.asks c.write.ensures.tags c.write.ensures.boots c.write.ensures.crash room)

pub returns-in_err-serve-clause-stops : goal.returns-in_err-serve-clause-stops
returns-in_err-serve-clause-stops g c =
    let may_recover = g.S.Storage.may_recover in
    let boots = g.S.Storage.boots in
    on_err_any c.from_residual-in_err-serve.result (HasRoom c.serve.new.host → HasStopped may_recover boots c.args.me c.args.arrivals.now c.args.host.now c.serve.new.host.host.storage)
    (λ room. asking_fails may_recover boots c.args.me c.args.arrivals.now c.args.host.now c.requires.ready c.requires.written c.stores_keep_first_inputs.ensures
    c.hear.new.host c.in_ok-hear.ensures.hears c.hear.new.election c.decide.new.election c.decide.new.host c.in_ok-decide.ensures.decides c.serve.new.host c.in_err-serve.ensures.fails room)

pub returns-clause-turns : goal.returns-clause-turns
returns-clause-turns g c =
    let fits : to_z w64 (of_z w64 c.args.now) ≡ c.args.now = search rules in
    let old = server c.args.host.now c.args.port.now.hub c.args.port.now.connections.items c.args.admission.now in
    let between = server c.serve.new.host c.serve.new.port.hub c.serve.new.port.connections.items c.serve.new.admission in
    let new = server c.write.new.host c.write.new.port.hub c.write.new.port.connections.items c.write.new.admission in
    if_ok_all c.write.result _ (λ messages is room. served g.S.Storage.may_recover g.S.Storage.boots c.args.me c.args.arrivals.now c.args.now c.args.election.now old
    c.requires.ready c.requires.written c.stores_keep_first_inputs.ensures c.hear.new.host c.decide.new.host between new c.hear.new.election c.decide.new.election messages
    c.in_ok-hear.ensures.hears c.in_ok-decide.ensures.decides c.in_ok-serve.ensures.asks c.write.ensures.tags c.write.ensures.boots room c.in_ok-hear.ensures.notes
    (subst (λ (now : ℤ). ServesClients c.args.me now (server c.decide.new.host c.args.port.now.hub c.args.port.now.connections.items c.args.admission.now) between) fits c.in_ok-serve.ensures.serves)
    (subst (λ (now : ℤ). WritesAll now between new) fits (subst (λ (r : Result (List (Message Call)) Stopped). OnOk r (WritesAll (to_z w64 (of_z w64 c.args.now)) between new)) is c.write.ensures.writes))
    (subst (λ (r : Result (List (Message Call)) Stopped). IfOk r (λ sent. sent ≡ c.serve.new.host.host.outbox)) is c.write.ensures.messages)
    (subst (λ (r : Result (List (Message Call)) Stopped). OnOk r (IsStored g.S.Storage.may_recover c.write.new.host.host)) is c.write.ensures.stored))
