-- The lines so far.
use Rattle.std.specs.String.{string_bytes}
use Rattle.zk_json_commands.proofs.StateLines.{AreSessions}
use Rattle.zk_json_commands.proofs.state_lines.push_sessions.Given as goal

abbrev pub invariant-loop-session : goal.invariant-loop-session
invariant-loop-session l = AreSessions l.fn.sessions l.session-index (string_bytes l.fn.text) (string_bytes l.text)
