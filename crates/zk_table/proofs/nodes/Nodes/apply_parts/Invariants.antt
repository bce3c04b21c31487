use Rattle.std.proofs.Common.{◌≡◌, ◌++◌, drop}
use Rattle.zk_table.specs.Multis.{nodes_after, answers_of}
use Rattle.zk_table.proofs.nodes.Nodes.apply_parts.Given as goal

abbrev pub invariant-loop-part : goal.invariant-loop-part
invariant-loop-part l =
    (nodes_after l.txn l.self (drop l.part-index l.parts) ≡ nodes_after l.txn l.initial.self l.parts)
    × (l.answers.items ++ answers_of l.txn l.self (drop l.part-index l.parts) ≡ answers_of l.txn l.initial.self l.parts)
