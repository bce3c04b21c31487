-- The lines so far.
use Rattle.std.specs.String.{string_bytes}
use Rattle.zk_directory_state.proofs.Losing.{AreLost}
use Rattle.zk_directory_state.proofs.loss_lines.push_losses.Given as goal

abbrev pub invariant-loop-loss : goal.invariant-loop-loss
invariant-loop-loss l = AreLost l.fn.losses l.loss-index (string_bytes l.fn.text) (string_bytes l.text)
