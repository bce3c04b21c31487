-- The lines so far, followed by those of the remaining paths, are all.
use Rattle.std.proofs.Common.{ℕ, List, drop, map}
use Rattle.std.specs.String.{string_bytes}
use Rattle.zk_json_commands.specs.Differences.{AppendsDifferences}
use Rattle.zk_json_commands.proofs.difference_lines.push_paths.Given as goal

abbrev pub invariant-loop-path : goal.invariant-loop-path
invariant-loop-path l =
    (new : List ℕ) → AppendsDifferences (string_bytes l.scope.root) l.scope.below l.changes l.old l.new (map (λ path. path.now) (drop l.path-index l.paths)) (string_bytes l.text) new
    → AppendsDifferences (string_bytes l.fn.scope.root) l.fn.scope.below l.fn.changes l.fn.old l.fn.new (map (λ path. path.now) l.fn.paths) (string_bytes l.fn.text) new
