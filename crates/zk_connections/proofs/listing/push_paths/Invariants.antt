-- The lines of the paths so far were appended.
use Rattle.std.proofs.Common.{◌≡◌, ◌++◌, take}
use Rattle.std.specs.List.{flat_map}
use Rattle.std.specs.String.{string_bytes}
use Rattle.zk_connections.specs.Listings.{path_line}
use Rattle.zk_connections.proofs.listing.push_paths.Given as goal

abbrev pub invariant-loop-path : goal.invariant-loop-path
invariant-loop-path l = string_bytes l.text ≡ string_bytes l.fn.text ++ flat_map path_line (take l.path-index l.paths)
