use Rattle.std.proofs.Common.{◌≡◌, ◌++◌, map, filter, drop}
use Rattle.zk_path.specs.Paths.{name_of}
use Rattle.zk_table.specs.Reads.{names_below}
use Rattle.zk_table.specs.States.{is_child_of}
use Rattle.zk_table.proofs.nodes.Nodes.child_names.Given as goal

abbrev pub invariant-loop-known : goal.invariant-loop-known
invariant-loop-known l = l.names.items ++ map name_of (filter (is_child_of l.path) (map (λ e. e.0) (drop l.known-index l.known-items))) ≡ names_below l.self l.path
