use Rattle.std.proofs.Common.{map, arith}
use Rattle.zk_state_snapshot.specs.StateSnapshots.{placed, table_of}
use Rattle.zk_state_snapshot.proofs.Tables.{lists_end, lists_next}
use Rattle.zk_state_snapshot.proofs.accesses.accesses_of.Goals as goal

pub loop-entry-preserved : goal.loop-entry-preserved
loop-entry-preserved c =
    let entries = c.args.entries.now in
    lists_next c.loop-entry.table.items c.add_list.new.table.items (table_of (map placed entries)) entries c.loop-entry.entry-index c.entry-item.result (omega arith) c.entry-item.is c.in_ok-add_list.ensures c.loop-entry.invariant

pub returns : goal.returns
returns c =
    let entries = c.args.entries.now in
    lists_end c.loop-entry.table.items (table_of (map placed entries)) entries c.loop-entry.entry-index (omega arith) c.loop-entry.invariant
