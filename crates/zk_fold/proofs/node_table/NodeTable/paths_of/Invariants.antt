use Rattle.std.proofs.Common.{◌≡◌, ◌++◌, map}
use Rattle.std.specs.FinMap as finite
use Rattle.std.specs.String.{string_bytes}
use Rattle.zk_fold.proofs.node_table.NodeTable.paths_of.Given as goal

-- the paths so far, and the remaining texts
abbrev pub invariant-loop-text : goal.invariant-loop-text
invariant-loop-text l = l.paths.items ++ map string_bytes l.text-iterator ≡ finite.keys l.set
