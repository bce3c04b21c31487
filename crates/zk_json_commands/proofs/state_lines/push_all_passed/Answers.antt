use Rattle.std.specs.String.{string_bytes}
use Rattle.zk_json_commands.proofs.StateLines.{next_passed}
use Rattle.zk_json_commands.proofs.state_lines.push_all_passed.Goals as goal

pub loop-broken-preserved : goal.loop-broken-preserved
loop-broken-preserved c =
    next_passed c.args.passed.now c.loop-broken.broken-index _ (string_bytes c.args.text.now) (string_bytes c.loop-broken.text) (string_bytes c.push_passed.new.text) c.loop-broken-test.true c.loop-broken.invariant c.in_ok-push_passed.ensures
