-- The remaining paths lead from the stamps so far to those after all.
use Rattle.std.proofs.Common.{◌≡◌, drop, map}
use Rattle.zk_tree_changes.specs.Changes.{stamped}
use Rattle.zk_tree_changes.proofs.stamps.Stamps.set_all.Given as goal

abbrev pub invariant-loop-path : goal.invariant-loop-path
invariant-loop-path l = stamped l.self l.fn.stamp (map (λ path. path.now) (drop l.path-index l.fn.paths)) ≡ stamped l.fn.self l.fn.stamp (map (λ path. path.now) l.fn.paths)
