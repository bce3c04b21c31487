use Rattle.std.proofs.Common.{◌≡◌, drop}
use Rattle.zk_model.specs.Ensembles.{take_all}
use Rattle.zk_replicas.proofs.replica.Replica.take_all.Given as goal

abbrev pub invariant-loop-index : goal.invariant-loop-index
invariant-loop-index l = take_all l.self (drop l.index l.entries) ≡ take_all l.fn.self l.entries
