-- The paths so far, and those of the remaining entries.
use Rattle.std.proofs.Common.{◌≡◌, ◌++◌, map}
use Rattle.std.specs.String.{string_bytes}
use Rattle.zk_sessions.proofs.Texts.{shown}
use Rattle.zk_sessions.specs.Ephemerals.{owned_by}
use Rattle.zk_sessions.proofs.ephemerals.Ephemerals.copies_of_owned.Given as goal

abbrev pub invariant-loop-path : goal.invariant-loop-path
invariant-loop-path l = map string_bytes l.paths.items ++ owned_by (map shown l.path-iterator) l.fn.session ≡ owned_by (map shown l.initial.path-iterator) l.fn.session
