-- None so far has stopped.
use Rattle.std.proofs.Common.{◌≡◌, None}
use Rattle.zk_client_service.specs.Elections.{copies}
use Rattle.zk_client_service.proofs.client_service.no_stops.Given as goal

abbrev pub invariant-servers : goal.invariant-servers
invariant-servers l = l.stops.items ≡ copies l.count None
