use Rattle.std.proofs.Common.{rules}
use Rattle.std.specs.String.{string_bytes}
use Rattle.zk_directory_state.proofs.Losing.{next_lost}
use Rattle.zk_directory_state.proofs.loss_lines.push_losses.Goals as goal

pub loop-loss-preserved : goal.loop-loss-preserved
loop-loss-preserved c =
    next_lost c.args.losses.now c.loop-loss.loss-index _ (string_bytes c.args.text.now) (string_bytes c.loop-loss.text) (string_bytes c.push_loss.new.text) c.loop-loss-test.true (search rules) c.loop-loss.invariant c.in_ok-push_loss.ensures
