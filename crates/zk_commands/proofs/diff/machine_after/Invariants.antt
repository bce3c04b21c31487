-- The remaining transactions lead from the machine's state so far to the requested one.
use Rattle.std.proofs.Common.{◌≡◌, ◌≤◌, false, drop}
use Rattle.zk_table.specs.Histories.{state_after}
use Rattle.zk_commands.proofs.diff.machine_after.Given as goal

abbrev pub invariant-loop-txn : goal.invariant-loop-txn
invariant-loop-txn l =
    (state_after l.machine.state (drop l.txn-index l.txns) ≡ state_after l.base.state l.txns) × (l.machine.failed ≡ false) × (l.machine.steps ≤ l.txn-index)
