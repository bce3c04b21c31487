-- The lines so far, followed by those of the remaining paths, are all.
use Rattle.std.proofs.Common.{ℕ, List, drop, map}
use Rattle.std.specs.List.{filter, flat_map}
use Rattle.std.specs.String.{string_bytes}
use Rattle.zk_tree_changes.specs.Changes.{stamp_at}
use Rattle.zk_tree_changes.specs.Differences.{lines_at}
use Rattle.zk_tree_changes.specs.Texts.{AppendsLines}
use Rattle.zk_incidents.specs.Within.{is_within}
use Rattle.zk_tree_changes.proofs.change.push_changes.Given as goal

abbrev pub invariant-loop-path : goal.invariant-loop-path
invariant-loop-path l =
    (new : List ℕ) → AppendsLines (stamp_at l.changes) (flat_map (lines_at l.old l.new) (filter (is_within (string_bytes l.scope.root) l.scope.below) (map (λ path. path.now) (drop l.path-index l.paths)))) (string_bytes l.text) new
    → AppendsLines (stamp_at l.fn.changes) (flat_map (lines_at l.fn.old l.fn.new) (filter (is_within (string_bytes l.fn.scope.root) l.fn.scope.below) (map (λ path. path.now) l.fn.paths))) (string_bytes l.fn.text) new
