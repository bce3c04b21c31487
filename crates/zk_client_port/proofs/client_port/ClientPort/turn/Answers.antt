use Rattle.std.proofs.Common.{◌≡◌, rules, to_z, of_z, w64}
use Rattle.zk_client_port.specs.Turns.{server}
use Rattle.zk_client_port.proofs.client_port.ClientPort.turn.Goals as goal

pub returns-in-Ok-clause-turns : goal.returns-in-Ok-clause-turns
returns-in-Ok-clause-turns g c =
    let now_fits : to_z w64 (of_z w64 c.args.moment.now) ≡ c.args.moment.now = search rules in
    record {
      between = server c.release.new.host c.release.new.self.hub c.release.new.self.connections.items c.release.new.admission;
      writes = rw now_fits at c.in_ok-turned.ensures.writes;
      serves = c.in-Ok.ensures.serves;
    }
