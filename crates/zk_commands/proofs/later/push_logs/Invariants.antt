-- The logs so far were gathered.
use Rattle.std.proofs.Common.{◌≡◌}
use Rattle.zk_commands.proofs.Gathered.{AreGathered}
use Rattle.zk_commands.proofs.later.push_logs.Given as goal

abbrev pub invariant-loop-bytes : goal.invariant-loop-bytes
invariant-loop-bytes l = record {
  counted : l.log ≡ l.bytes-index;
  gathered : AreGathered l.fn.chain l.fn.txns.items l.fn.logs l.bytes-index l.chain l.txns.items;
}
