use Rattle.std.proofs.Common.{◌≡◌, ◌++◌, map, filter, drop, int_eq}
use Rattle.std.specs.FinMap.{entries}
use Rattle.zk_table.proofs.nodes.Nodes.owned_by.Given as goal

abbrev pub invariant-loop-path : goal.invariant-loop-path
invariant-loop-path l = l.paths.items ++ map (λ e. e.0) (filter (λ e. int_eq e.1.owner l.session) (drop l.path-index l.path-items)) ≡ map (λ e. e.0) (filter (λ e. int_eq e.1.owner l.session) (entries l.self))
