-- The paths so far, and those of the remaining entries.
use Rattle.std.proofs.Common.{◌≡◌, ◌++◌, map}
use Rattle.zk_incidents.proofs.Texts.{shown}
use Rattle.zk_incidents.specs.Owners.{owned_by}
use Rattle.zk_incidents.proofs.owners.Owners.owned_by.Given as goal

abbrev pub invariant-loop-path : goal.invariant-loop-path
invariant-loop-path l = map (λ path. path.now) l.paths.items ++ owned_by (map shown l.path-iterator) l.fn.session ≡ owned_by (map shown l.initial.path-iterator) l.fn.session
