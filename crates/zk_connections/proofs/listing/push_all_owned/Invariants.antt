-- The lines of the sessions' nodes so far were appended.
use Rattle.std.proofs.Common.{◌≡◌, ◌++◌, take}
use Rattle.std.specs.List.{flat_map}
use Rattle.std.specs.String.{string_bytes}
use Rattle.zk_connections.specs.Listings.{owned_lines}
use Rattle.zk_connections.proofs.listing.push_all_owned.Given as goal

abbrev pub invariant-loop-nodes : goal.invariant-loop-nodes
invariant-loop-nodes l = string_bytes l.text ≡ string_bytes l.fn.text ++ flat_map owned_lines (take l.nodes-index l.owned)
