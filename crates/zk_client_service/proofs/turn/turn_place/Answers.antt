use Rattle.std.proofs.Common.{rules, refl}
use Rattle.zk_client_service.proofs.Turning.{turns_place}
use Rattle.zk_client_service.specs.Ports.{port_of}
use Rattle.zk_peers.specs.Hosts.{setting_for}
use Rattle.zk_peers.specs.declared.place.Place.TheVariants.{Up}
use Rattle.zk_client_service.proofs.turn.turn_place.Goals as goal

pub returns : goal.returns
returns g c =
    turns_place (setting_for c.args.quorums.now.servers) c.args.moment c.args.place.now (Up c.turn_port.new.host) c.in-Up.host c.turn_port.new.host (port_of c.args.port.now) (port_of c.turn_port.new.port) c.args.admission.now c.turn_port.new.admission
    c.in-Up.is refl c.turn_port.result c.turn_port.ensures.turns c.turn_port.ensures.sent
