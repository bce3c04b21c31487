-- The lines of the connections so far were appended.
use Rattle.std.proofs.Common.{◌≡◌, ◌++◌, take}
use Rattle.std.specs.List.{flat_map}
use Rattle.std.specs.String.{string_bytes}
use Rattle.zk_connections.specs.Listings.{connection_line}
use Rattle.zk_connections.proofs.listing.push_connections.Given as goal

abbrev pub invariant-loop-connection : goal.invariant-loop-connection
invariant-loop-connection l = string_bytes l.text ≡ string_bytes l.fn.text ++ flat_map connection_line (take l.connection-index l.connections)
