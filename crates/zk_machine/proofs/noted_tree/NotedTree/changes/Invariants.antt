use Rattle.std.proofs.Common.{◌≡◌, take}
use Rattle.std.specs.FinMap as finite
use Rattle.std.specs.List.{flat_map}
use Rattle.zk_machine.specs.Changes.{compared}
use Rattle.zk_machine.proofs.noted_tree.NotedTree.changes.Given as goal

abbrev pub invariant-loop-path : goal.invariant-loop-path
invariant-loop-path l = l.changes.items ≡ flat_map (λ e. compared e.0 e.1 (finite.get l.self.tree e.0)) (take l.path-index l.path-items)
