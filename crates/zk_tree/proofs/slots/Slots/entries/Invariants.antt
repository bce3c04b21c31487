use Rattle.std.proofs.Common.{◌≡◌, ◌++◌, map}
use Rattle.zk_tree.proofs.Sorting.{lent_entry, text_entry}
use Rattle.zk_tree.proofs.slots.Slots.entries.Given as goal

-- the entries so far, and the remaining ones
abbrev pub invariant-loop-text : goal.invariant-loop-text
invariant-loop-text l = map lent_entry l.entries.items ++ map text_entry l.text-iterator ≡ map text_entry l.initial.text-iterator
