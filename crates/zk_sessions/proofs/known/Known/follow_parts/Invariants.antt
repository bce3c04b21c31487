-- The remaining parts lead from what is known so far to what is known after all.
use Rattle.std.proofs.Common.{◌≡◌, drop}
use Rattle.zk_sessions.specs.Known.{after_parts}
use Rattle.zk_sessions.proofs.known.Known.follow_parts.Given as goal

abbrev pub invariant-loop-part : goal.invariant-loop-part
invariant-loop-part l = after_parts l.fn.session l.self (drop l.part-index l.fn.parts) ≡ after_parts l.fn.session l.fn.self l.fn.parts
