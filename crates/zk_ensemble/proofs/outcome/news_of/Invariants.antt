-- The events selected so far, and those selected from this one on, are all.
use Rattle.std.proofs.Common.{◌≡◌, ◌==◌, ◌++◌, drop, map}
use Rattle.std.specs.List.{filter}
use Rattle.zk_ensemble.specs.Outcomes.{change_in}
use Rattle.zk_ensemble.proofs.outcome.news_of.Given as goal

abbrev pub invariant-loop-event : goal.invariant-loop-event
invariant-loop-event l = l.news.items ++ map change_in (filter (λ it. it.session == l.session) (drop l.event-index l.fired)) ≡ map change_in (filter (λ it. it.session == l.session) l.fired)
