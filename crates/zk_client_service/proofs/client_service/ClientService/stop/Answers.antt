use Rattle.std.proofs.Common.{refl}
use Rattle.zk_client_service.proofs.client_service.ClientService.stop.Goals as goal

pub returns : goal.returns
returns g c = record {
  crashes = c.in_ok-crash.ensures.crashes;
  ports = c.cut_off_server.ensures;
  stops = c.keep_stop.ensures;
  rest = (refl, refl);
}
