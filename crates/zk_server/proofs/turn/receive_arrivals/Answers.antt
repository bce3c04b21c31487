use Rattle.zk_server.specs.Deeds.{FailsAt}
use Rattle.zk_server.specs.Mail.{mail_in}
use Rattle.zk_server.proofs.Results.{on_err_any}
use Rattle.zk_server.proofs.Turning.{mail_fails, mail_more}
use Rattle.zk_server.proofs.turn.receive_arrivals.Goals as goal

pub loop-index-preserved : goal.loop-index-preserved
loop-index-preserved g c =
    mail_more g.S.Storage.may_recover g.S.Storage.boots c.args.me c.args.arrivals.now c.loop-index.index c.index-arrivals-index.result c.args.host.now c.loop-index.host
    c.receive_arrival.new.host c.loop-index-test.true c.index-arrivals-index.is c.loop-index.invariant c.in_ok-receive_arrival.ensures.hears

pub returns-in_err-receive_arrival-clause-fails : goal.returns-in_err-receive_arrival-clause-fails
returns-in_err-receive_arrival-clause-fails g c =
    let may_recover = g.S.Storage.may_recover in
    let boots = g.S.Storage.boots in
    on_err_any c.from_residual.result (FailsAt may_recover boots c.args.me (mail_in c.args.arrivals.now) c.args.host.now c.receive_arrival.new.host)
    (mail_fails may_recover boots c.args.me c.args.arrivals.now c.loop-index.index c.index-arrivals-index.result c.args.host.now c.loop-index.host
    c.receive_arrival.new.host c.loop-index-test.true c.index-arrivals-index.is c.loop-index.invariant c.in_err-receive_arrival.ensures.fails)
