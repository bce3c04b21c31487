-- The clients of the servers so far are cut off, unless they serve.
use Rattle.std.proofs.Common.{◌≡◌, length}
use Rattle.zk_client_service.specs.Ports.{ports_of}
use Rattle.zk_client_service.specs.Services.{first_unserved}
use Rattle.zk_client_service.proofs.client_service.ClientService.cut_off_unserved.Given as goal

abbrev pub invariant-loop-index : goal.invariant-loop-index
invariant-loop-index g l = record {
  ports : ports_of l.self.ports.items ≡ first_unserved l.fn.self.peers.cuts.items l.fn.self.peers.places.items l.fn.self.peers.leader l.index (ports_of l.fn.self.ports.items);
  count : length l.self.ports.items ≡ length l.fn.self.ports.items;
  peers : l.self.peers ≡ l.fn.self.peers;
  admission : l.self.admission ≡ l.fn.self.admission;
  opened : l.self.opened ≡ l.fn.self.opened;
  stops : l.self.stops ≡ l.fn.self.stops;
}
