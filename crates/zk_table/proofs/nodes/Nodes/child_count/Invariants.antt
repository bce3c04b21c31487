use Rattle.std.proofs.Common.{◌≡◌, ◌≤◌, ◌+◌, length, filter, map, drop}
use Rattle.zk_table.specs.States.{is_child_of, children_of}
use Rattle.zk_table.proofs.nodes.Nodes.child_count.Given as goal

abbrev pub invariant-loop-known : goal.invariant-loop-known
invariant-loop-known l = (l.count ≤ l.known-index) × (l.count + length (filter (is_child_of l.path) (map (λ e. e.0) (drop l.known-index l.known-items))) ≡ length (children_of l.self l.path))
