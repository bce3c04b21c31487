-- The tree after those of the transactions so far that are shown.
use Rattle.std.proofs.Common.{◌≡◌, false, take}
use Rattle.zk_log_commands.specs.Showing.{shown_of}
use Rattle.zk_table.specs.Histories.{state_after}
use Rattle.zk_table.specs.States.{start_state}
use Rattle.zk_json_commands.proofs.show_log.tree_upto.Given as goal

abbrev pub invariant-loop-txn : goal.invariant-loop-txn
invariant-loop-txn l = (l.table.failed ≡ false) × (l.table.state ≡ state_after start_state (shown_of l.fn.upto (take l.txn-index l.fn.txns)))
