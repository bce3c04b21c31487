use Rattle.std.proofs.Common.{◌≡◌, ◌≤◌, ◌-◌, false, drop, length}
use Rattle.zk_table.specs.Histories.{state_after}
use Rattle.zk_table.specs.States.{start_state}
use Rattle.zk_model.proofs.preparer.prep_after.Given as goal

abbrev pub invariant-loop-done : goal.invariant-loop-done
invariant-loop-done l = record {
  within : l.done ≤ length l.txns;
  running : l.prep.failed ≡ false;
  taken : state_after l.prep.state (drop l.done l.txns) ≡ state_after start_state l.txns;
}

abbrev pub decreases-loop-done : goal.decreases-loop-done
decreases-loop-done l = length l.txns - l.done
