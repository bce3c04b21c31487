-- The paths so far, and the remaining ones.
use Rattle.std.proofs.Common.{◌≡◌, ◌++◌, drop, map}
use Rattle.std.specs.List.{filter}
use Rattle.std.specs.String.{string_bytes}
use Rattle.zk_incidents.specs.Within.{is_within}
use Rattle.zk_incidents.proofs.history_fold.covered.Given as goal

abbrev pub invariant-loop-path : goal.invariant-loop-path
invariant-loop-path l = map (λ path. path.now) l.seen.items ++ filter (is_within (string_bytes l.fn.scope.root) l.fn.scope.below) (map (λ path. path.now) (drop l.path-index l.fn.paths)) ≡ filter (is_within (string_bytes l.fn.scope.root) l.fn.scope.below) (map (λ path. path.now) l.fn.paths)
