use Rattle.std.proofs.Common.{◌≡◌, false, drop, map}
use Rattle.std.specs.FinMap as finite
use Rattle.zk_replay.specs.Bases.{settled, nodes_fault, tree_fault}
use Rattle.zk_replay.specs.Drafts.{entry_of}
use Rattle.zk_replay.proofs.table.table_of.Given as goal

abbrev pub invariant-loop-one : goal.invariant-loop-one
invariant-loop-one l = (settled finite.empty (map entry_of l.fn.entries) ≡ settled l.table.state.nodes (map entry_of (drop l.one-index l.others))) × (l.table.state.sessions ≡ l.fn.sessions) × (l.table.state.last ≡ l.fn.last) × (l.table.failed ≡ false) × (tree_fault (map entry_of l.fn.entries) ≡ nodes_fault l.table.state.nodes (map entry_of (drop l.one-index l.others)))
