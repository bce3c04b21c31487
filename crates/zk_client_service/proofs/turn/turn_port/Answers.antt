use Rattle.std.proofs.Common.{List, subst, sym}
use Rattle.zk_client_port.specs.Turns.{server, Turns}
use Rattle.zk_client_port.specs.declared.expected.Expected.{Expected}
use Rattle.zk_client_service.specs.Ports.{port_of}
use Rattle.zk_client_service.specs.Rounds.{served_by}
use Rattle.zk_hub.specs.declared.outcome.Outcome.{Outcome}
use Rattle.zk_hub.specs.declared.request.Outstanding.{Outstanding}
use Rattle.zk_peers.specs.Hosts.{setting_for}
use Rattle.zk_client_service.proofs.turn.turn_port.Goals as goal

pub returns-clause-turns : goal.returns-clause-turns
returns-clause-turns g c = record {
  turned = c.turn.new.self.connections.items;
  closed = c.in_ok-turned.turned.closed.items;
  turns =
      subst (λ (hub : List (Outstanding Expected Outcome)). Turns (setting_for c.args.quorums.now.servers) c.args.moment (served_by c.args.host.now (port_of c.args.port.now) c.args.admission.now)
      (server c.turn.new.host hub c.turn.new.self.connections.items c.turn.new.admission) c.in_ok-turned.turned.displaced.items c.in_ok-turned.turned.closed.items) (sym c.write_listings.ensures.hub) c.in_ok-turned.ensures.turns;
  result = c.write_listings.result;
  lists = c.write_listings.ensures.lists;
}
