use Rattle.std.proofs.Common.{◌≡◌, map, take}
use Rattle.zk_tree.specs.Entries.{lent}
use Rattle.zk_tree.proofs.Lending.{slot_lent}
use Rattle.zk_tree.proofs.Sorting.{lent_entry}
use Rattle.zk_tree.proofs.branches.Branches.entries.Given as goal

-- the slots so far were borrowed
abbrev pub invariant-loop-place : goal.invariant-loop-place
invariant-loop-place l = map lent l.entries.items ≡ map slot_lent (map lent_entry (take l.place-index l.place-items))
