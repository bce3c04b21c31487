use Rattle.std.proofs.Common.{refl}
use Rattle.zk_client_port.proofs.Frames.{on_ok}
use Rattle.zk_client_service.specs.Ensembles.{ensemble}
use Rattle.zk_client_service.specs.Rounds.{Received, FailedMail}
use Rattle.zk_client_service.proofs.Places.{known_server}
use Rattle.zk_client_service.proofs.client_service.ClientService.receive.Goals as goal

pub returns-in-Ok : goal.returns-in-Ok
returns-in-Ok g c = Received c.in-Ok.ensures.receives refl (record { admission = refl; opened = refl; stops = refl })

pub returns-in-Err-Store : goal.returns-in-Err-Store
returns-in-Err-Store g c =
    on_ok c.stop.result c.stop.ensures (λ stops. FailedMail (record (ensemble c.args.self.now) { peers = c.receive.new.self }) c.in-Err-Store.fault
    (c.in-Err-Store.ensures.failed (known_server _ c.in-Err-Store.field-0 c.in-Err-Store.fault c.in-Err-Store.field-0-is c.in-Err-Store.ensures.unknown)) refl (record { admission = refl; opened = refl; stops = refl }) stops)
