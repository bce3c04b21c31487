use Rattle.std.proofs.Common.{◌≡◌, drop}
use Rattle.zk_replay.specs.Rules.{apply_parts}
use Rattle.zk_replay.proofs.rules.apply_parts.Given as goal

abbrev pub invariant-loop-part : goal.invariant-loop-part
invariant-loop-part l = apply_parts l.fn.txn l.fn.drafts l.fn.parts ≡ apply_parts l.fn.txn l.drafts (drop l.part-index l.fn.parts)
