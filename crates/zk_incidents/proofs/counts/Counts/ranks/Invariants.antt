-- The remaining entries lead from the ranks so far to those of all.
use Rattle.std.proofs.Common.{◌≡◌, [], map}
use Rattle.zk_incidents.proofs.Texts.{shown}
use Rattle.zk_incidents.specs.Counts.{ranked_all}
use Rattle.zk_incidents.proofs.counts.Counts.ranks.Given as goal

abbrev pub invariant-loop-text : goal.invariant-loop-text
invariant-loop-text l = ranked_all l.ranks (map shown l.text-iterator) ≡ ranked_all [] (map shown l.initial.text-iterator)
