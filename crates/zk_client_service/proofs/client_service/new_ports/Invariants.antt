-- The ports so far have no connections.
use Rattle.std.proofs.Common.{◌≡◌}
use Rattle.zk_client_service.specs.Elections.{copies, new_port}
use Rattle.zk_client_service.specs.Ports.{ports_of}
use Rattle.zk_client_service.proofs.client_service.new_ports.Given as goal

abbrev pub invariant-servers : goal.invariant-servers
invariant-servers l = ports_of l.ports.items ≡ copies l.count new_port
