use Rattle.std.proofs.Common.{◌≡◌, ◌||◌, drop}
use Rattle.zk_replay.specs.Rules.{apply_parts}
use Rattle.zk_replay.specs.Windows.{some_part_is_done}
use Rattle.zk_replay.proofs.done.find_parts.Given as goal

abbrev pub invariant-loop-part : goal.invariant-loop-part
invariant-loop-part l = record {
  nodes : apply_parts l.fn.txn l.fn.drafts l.fn.parts ≡ apply_parts l.fn.txn l.drafts (drop l.part-index l.fn.parts);
  done : some_part_is_done l.fn.txn l.fn.drafts l.fn.parts ≡ (l.done || some_part_is_done l.fn.txn l.drafts (drop l.part-index l.fn.parts));
}
