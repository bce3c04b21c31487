-- The paths so far, and those of the remaining entries.
use Rattle.std.proofs.Common.{◌≡◌, ◌++◌, map}
use Rattle.zk_sessions.proofs.Texts.{shown}
use Rattle.zk_sessions.specs.Ephemerals.{owned_by}
use Rattle.zk_sessions.proofs.ephemerals.Ephemerals.owned_by.Given as goal

abbrev pub invariant-loop-path : goal.invariant-loop-path
invariant-loop-path l = map (λ path. path.now) l.paths.items ++ owned_by (map shown l.path-iterator) l.fn.session ≡ owned_by (map shown l.initial.path-iterator) l.fn.session
