use Rattle.std.proofs.Common.{◌≡◌, ℕ, List, drop, None}
use Rattle.std.specs.FinMap as finite
use Rattle.zk_replay.specs.Owning.{stored_from}
use Rattle.zk_stored_owners.proofs.owners.Owners.stored.Given as goal

abbrev pub invariant-loop-one : goal.invariant-loop-one
invariant-loop-one l = (q : List ℕ) → stored_from (finite.get l.owners q) (drop l.one-index l.fn.stored) q ≡ stored_from None l.fn.stored q
