-- The entries so far.
use Rattle.std.proofs.Common.{◌≡◌, drop}
use Rattle.zk_directory_state.specs.Histories.{latest_in}
use Rattle.zk_directory_state.proofs.upto.latest_in.Given as goal

abbrev pub invariant-loop-entry : goal.invariant-loop-entry
invariant-loop-entry l = latest_in l.time l.fn.zxid l.fn.entries ≡ latest_in l.time l.latest (drop l.entry-index l.fn.entries)
