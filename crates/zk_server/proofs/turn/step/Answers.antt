use Rattle.zk_server.specs.Turns.{HasFailed}
use Rattle.zk_server.proofs.Results.{on_err_any}
use Rattle.zk_server.proofs.Turning.{storing_fails}
use Rattle.zk_server.proofs.turn.step.Goals as goal

pub returns-clause-stops : goal.returns-clause-stops
returns-clause-stops g c =
    let may_recover = g.S.Storage.may_recover in
    let boots = g.S.Storage.boots in
    on_err_any c.release.result (HasFailed may_recover boots c.args.me c.args.arrivals.now c.args.host.now c.release.new.host.host.storage)
    (storing_fails may_recover boots c.args.me c.args.arrivals.now c.args.host.now c.requires c.stores_keep_first_inputs.ensures c.hear.new.election c.decide.new.election
    c.hear.new.host c.decide.new.host c.release.new.host c.in_ok-hear.ensures.hears c.in_ok-decide.ensures.decides c.release.ensures.tags c.release.ensures.boots
    c.release.ensures.crash)
