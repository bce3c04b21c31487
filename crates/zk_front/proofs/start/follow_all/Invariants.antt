-- The servers before this one follow.
use Rattle.zk_front.specs.Happening.{Ran}
use Rattle.zk_front.specs.ServiceStarting.{followers}
use Rattle.zk_front.proofs.start.follow_all.Given as goal

abbrev pub invariant-loop-place : goal.invariant-loop-place
invariant-loop-place l = Ran l.fn.ensemble (followers l.place) l.ensemble
