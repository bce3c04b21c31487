-- The remaining parts lead from the owners so far to those after all.
use Rattle.std.proofs.Common.{◌≡◌, drop}
use Rattle.zk_incidents.specs.Owners.{after_parts}
use Rattle.zk_incidents.proofs.owners.Owners.follow_parts.Given as goal

abbrev pub invariant-loop-part : goal.invariant-loop-part
invariant-loop-part l = after_parts l.fn.session l.self (drop l.part-index l.fn.parts) ≡ after_parts l.fn.session l.fn.self l.fn.parts
