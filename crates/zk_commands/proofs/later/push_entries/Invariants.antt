-- The entries so far were gathered.
use Rattle.zk_commands.proofs.Gathered.{AreGatheredTo}
use Rattle.zk_commands.proofs.later.push_entries.Given as goal

abbrev pub invariant-loop-entry : goal.invariant-loop-entry
invariant-loop-entry l = AreGatheredTo l.fn.chain l.fn.txns.items l.fn.entries l.entry-index l.chain l.txns.items
