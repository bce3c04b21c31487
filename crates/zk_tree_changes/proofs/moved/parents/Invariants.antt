-- The parents so far, and those of the remaining paths.
use Rattle.std.proofs.Common.{◌≡◌, ◌++◌, drop, map}
use Rattle.zk_tree_changes.specs.Changes.{parents}
use Rattle.zk_tree_changes.proofs.moved.parents.Given as goal

abbrev pub invariant-loop-path : goal.invariant-loop-path
invariant-loop-path l = map (λ path. path.now) l.above.items ++ parents (map (λ path. path.now) (drop l.path-index l.fn.paths)) ≡ parents (map (λ path. path.now) l.fn.paths)
