-- The texts so far, and the remaining ones.
use Rattle.std.proofs.Common.{◌≡◌, ◌++◌, drop, map}
use Rattle.std.specs.String.{string_bytes}
use Rattle.zk_incidents.proofs.owners.copies_of.Given as goal

abbrev pub invariant-loop-text : goal.invariant-loop-text
invariant-loop-text l = map string_bytes l.copies.items ++ map (λ text. text.now) (drop l.text-index l.fn.texts) ≡ map (λ text. text.now) l.fn.texts
