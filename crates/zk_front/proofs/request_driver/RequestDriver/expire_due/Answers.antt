use Rattle.std.proofs.Common.{refl}
use Rattle.zk_prepare.specs.Deadlines.{expired_at}
use Rattle.zk_front.specs.Remotes.{serving}
use Rattle.zk_front.proofs.Calling.{on_err}
use Rattle.zk_front.proofs.Expiring.{none_stops}
use Rattle.zk_front.proofs.request_driver.RequestDriver.expire_due.Goals as goal

pub returns-in_err-due-clause-stopped : goal.returns-in_err-due-clause-stopped
returns-in_err-due-clause-stopped g c =
    let old = serving c.args.self.now.caller c.args.self.now.clients in
    on_err _ c.from_residual.result (none_stops c.args.now (expired_at c.args.self.now.clients.tracker c.args.now) old old refl refl refl)
