use Rattle.std.proofs.Common.{◌≡◌, map, take}
use Rattle.zk_hub.proofs.reading.ids_of.Given as goal

abbrev pub invariant-loop-entry : goal.invariant-loop-entry
invariant-loop-entry l = l.ids.items ≡ map (λ entry. entry.id) (take l.entry-index l.entries)
