-- No part so far was rejected.
use Rattle.std.proofs.Common.{◌≡◌, length}
use Rattle.zk_comparison.specs.Meanings.{failure_in}
use Rattle.zk_comparison.proofs.meaning.failure_in.Given as goal

abbrev pub invariant-loop-rest : goal.invariant-loop-rest
invariant-loop-rest l = failure_in l.rest ≡ failure_in l.fn.parts

abbrev pub decreases-loop-rest : goal.decreases-loop-rest
decreases-loop-rest l = length l.rest
