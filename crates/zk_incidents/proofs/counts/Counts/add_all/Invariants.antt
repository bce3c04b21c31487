-- The remaining texts lead from the counts so far to those after all.
use Rattle.std.proofs.Common.{◌≡◌, drop, map}
use Rattle.zk_incidents.specs.Counts.{counted_all}
use Rattle.zk_incidents.proofs.counts.Counts.add_all.Given as goal

abbrev pub invariant-loop-text : goal.invariant-loop-text
invariant-loop-text l = counted_all l.self (map (λ text. text.now) (drop l.text-index l.fn.texts)) ≡ counted_all l.fn.self (map (λ text. text.now) l.fn.texts)
