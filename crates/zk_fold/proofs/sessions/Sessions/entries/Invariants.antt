use Rattle.std.proofs.Common.{◌≡◌, ◌++◌}
use Rattle.zk_fold.proofs.sessions.Sessions.entries.Given as goal

-- the entries so far, and the remaining ones
abbrev pub invariant-loop-session : goal.invariant-loop-session
invariant-loop-session l = l.entries.items ++ l.session-iterator ≡ l.initial.session-iterator
