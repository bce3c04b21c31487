use Rattle.std.proofs.Common.{◌≡◌, replicate, None}
use Rattle.zk_model.specs.Ensembles.{fresh}
use Rattle.zk_ensemble.proofs.ensemble.Ensemble.with.Given as goal

abbrev pub invariant-loop : goal.invariant-loop
invariant-loop l = (l.replicas.items ≡ replicate l.counter fresh) × (l.kept.items ≡ replicate l.counter None)
