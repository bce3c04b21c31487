use Rattle.std.proofs.Common.{◌≡◌, drop, map}
use Rattle.zk_state_snapshot.specs.Lists.{with_lists}
use Rattle.zk_state_snapshot.specs.StateSnapshots.{placed, table_of}
use Rattle.zk_state_snapshot.proofs.Tables.{lists_of}
use Rattle.zk_state_snapshot.proofs.accesses.accesses_of.Given as goal

abbrev pub invariant-loop-entry : goal.invariant-loop-entry
invariant-loop-entry l = with_lists l.table.items (lists_of (drop l.entry-index l.fn.entries)) ≡ table_of (map placed l.fn.entries)
