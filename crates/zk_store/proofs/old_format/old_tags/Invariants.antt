use Rattle.std.proofs.Common.{◌≡◌, ◌++◌, length}
use Rattle.zk_store.specs.OldFormat.{old_tags}
use Rattle.zk_store.proofs.old_format.old_tags.Given as goal

abbrev pub invariant-loop-rest : goal.invariant-loop-rest
invariant-loop-rest l = l.file ≡ old_tags l.tags.items ++ l.rest

abbrev pub decreases-loop-rest : goal.decreases-loop-rest
decreases-loop-rest l = length l.rest
