use Rattle.zk_server.specs.Deeds.{FailsAt}
use Rattle.zk_server.proofs.Hearing.{fails_later}
use Rattle.zk_server.proofs.Results.{on_err_any}
use Rattle.zk_server.proofs.mail.receive_all.Goals as goal

pub returns-in_err-receive_at-clause-fails : goal.returns-in_err-receive_at-clause-fails
returns-in_err-receive_at-clause-fails g c =
    let may_recover = g.S.Storage.may_recover in
    let boots = g.S.Storage.boots in
    on_err_any c.from_residual.result (FailsAt may_recover boots c.args.me c.args.messages.now c.args.host.now c.receive_at.new.host)
    (fails_later may_recover boots c.args.me c.args.messages.now c.loop-index.index c.args.host.now c.loop-index.host c.receive_at.new.host c.loop-index.invariant
    c.in_err-receive_at.ensures.fails)
