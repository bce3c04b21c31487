-- The expired sessions so far, and those to come.
use Rattle.std.proofs.Common.{◌≡◌, ◌++◌, drop}
use Rattle.zk_connections.specs.Sessions.{expired_at}
use Rattle.zk_connections.proofs.client_sessions.expired_in.Given as goal

abbrev pub invariant-loop-session : goal.invariant-loop-session
invariant-loop-session l = l.ids.items ++ expired_at l.now (drop l.session-index l.fn.sessions) ≡ expired_at l.now l.fn.sessions
