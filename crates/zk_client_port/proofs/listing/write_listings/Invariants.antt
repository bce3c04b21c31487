-- The connections so far have their lists.
use Rattle.std.proofs.Common.{◌≡◌, ◌++◌, map, take, drop}
use Rattle.zk_client_port.specs.Listings.{listed}
use Rattle.zk_client_port.proofs.listing.write_listings.Given as goal

abbrev pub invariant-loop-index : goal.invariant-loop-index
invariant-loop-index l = l.connections.items ≡ map (listed l.connections_text l.sessions_text) (take l.index l.fn.connections.items) ++ drop l.index l.fn.connections.items
