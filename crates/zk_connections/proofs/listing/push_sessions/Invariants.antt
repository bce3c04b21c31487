-- The lines of the sessions so far were appended.
use Rattle.std.proofs.Common.{◌≡◌, ◌++◌, take}
use Rattle.std.specs.List.{flat_map}
use Rattle.std.specs.String.{string_bytes}
use Rattle.zk_connections.specs.Listings.{session_line}
use Rattle.zk_connections.proofs.listing.push_sessions.Given as goal

abbrev pub invariant-loop-session : goal.invariant-loop-session
invariant-loop-session l = string_bytes l.text ≡ string_bytes l.fn.text ++ flat_map session_line (take l.session-index l.sessions)
