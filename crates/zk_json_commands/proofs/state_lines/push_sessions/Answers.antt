use Rattle.std.specs.String.{string_bytes}
use Rattle.zk_json_commands.proofs.StateLines.{next_session}
use Rattle.zk_json_commands.proofs.state_lines.push_sessions.Goals as goal

pub loop-session-preserved : goal.loop-session-preserved
loop-session-preserved c =
    next_session c.args.sessions.now c.loop-session.session-index _ (string_bytes c.args.text.now) (string_bytes c.loop-session.text) (string_bytes c.push_session.new.text) c.loop-session-test.true c.loop-session.invariant c.in_ok-push_session.ensures
