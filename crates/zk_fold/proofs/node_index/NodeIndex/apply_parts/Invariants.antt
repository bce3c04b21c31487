use Rattle.std.proofs.Common.{◌≡◌, drop}
use Rattle.zk_table.specs.Multis.{nodes_after}
use Rattle.zk_fold.proofs.node_index.NodeIndex.apply_parts.Given as goal

-- the remaining parts lead to the expected nodes
abbrev pub invariant-loop-part : goal.invariant-loop-part
invariant-loop-part l = nodes_after l.txn l.self (drop l.part-index l.parts) ≡ nodes_after l.txn l.fn.self l.parts
