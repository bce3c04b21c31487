use Rattle.std.proofs.Common.{◌≡◌, map, take}
use Rattle.zk_tree.specs.Entries.{lent}
use Rattle.zk_fold.proofs.Lending.{place_lent}
use Rattle.zk_tree.proofs.Sorting.{lent_entry}
use Rattle.zk_fold.proofs.node_index.NodeIndex.entries.Given as goal

-- the slots so far were borrowed
abbrev pub invariant-loop-at : goal.invariant-loop-at
invariant-loop-at l = map lent l.entries.items ≡ map place_lent (map lent_entry (take l.at-index l.at-items))
