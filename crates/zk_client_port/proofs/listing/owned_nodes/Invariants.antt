-- The sessions so far, and those to come.
use Rattle.std.proofs.Common.{◌≡◌, ◌++◌, map, drop}
use Rattle.zk_client_port.specs.Listings.{owned_in, pair_of}
use Rattle.zk_client_port.proofs.listing.owned_nodes.Given as goal

abbrev pub invariant-loop-session : goal.invariant-loop-session
invariant-loop-session l = map pair_of l.owned.items ++ owned_in l.tree (drop l.session-index l.sessions) ≡ owned_in l.fn.tree l.fn.sessions
