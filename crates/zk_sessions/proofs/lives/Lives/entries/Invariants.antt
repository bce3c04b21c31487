-- The entries so far, and the remaining ones.
use Rattle.std.proofs.Common.{◌≡◌, ◌++◌}
use Rattle.zk_sessions.proofs.lives.Lives.entries.Given as goal

abbrev pub invariant-loop-session : goal.invariant-loop-session
invariant-loop-session l = l.entries.items ++ l.session-iterator ≡ l.initial.session-iterator
