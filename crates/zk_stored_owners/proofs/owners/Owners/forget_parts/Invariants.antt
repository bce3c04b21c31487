use Rattle.std.proofs.Common.{◌≡◌, ℕ, List, drop, cond, None}
use Rattle.std.specs.FinMap as finite
use Rattle.std.specs.List.{list_any}
use Rattle.zk_replay.specs.Owning.{part_creates}
use Rattle.zk_stored_owners.proofs.owners.Owners.forget_parts.Given as goal

abbrev pub invariant-loop-part : goal.invariant-loop-part
invariant-loop-part l = (q : List ℕ) → cond (list_any (part_creates q) (drop l.part-index l.fn.parts)) None (finite.get l.self q) ≡ cond (list_any (part_creates q) l.fn.parts) None (finite.get l.fn.self q)
