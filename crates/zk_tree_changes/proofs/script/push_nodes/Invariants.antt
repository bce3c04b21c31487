-- The nodes so far, and the remaining ones.
use Rattle.std.proofs.Common.{◌≡◌, ◌++◌, drop, map}
use Rattle.std.specs.List.{flat_map}
use Rattle.std.specs.String.{string_bytes}
use Rattle.zk_tree_changes.specs.Scripts.{covered_lines, node_of}
use Rattle.zk_tree_changes.proofs.script.push_nodes.Given as goal

abbrev pub invariant-loop-entry : goal.invariant-loop-entry
invariant-loop-entry l =
    string_bytes l.text ++ flat_map (covered_lines (string_bytes l.fn.scope.root)) (map node_of (drop l.entry-index l.fn.entries))
    ≡ string_bytes l.fn.text ++ flat_map (covered_lines (string_bytes l.fn.scope.root)) (map node_of l.fn.entries)
