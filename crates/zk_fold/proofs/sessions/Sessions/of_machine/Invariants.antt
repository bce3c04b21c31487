use Rattle.std.proofs.Common.{◌≡◌, drop}
use Rattle.std.specs.FinMap as finite
use Rattle.zk_fold.proofs.Reopened.{all_put}
use Rattle.zk_fold.proofs.sessions.Sessions.of_machine.Given as goal

-- the remaining entries lead from the sessions so far to all of them
abbrev pub invariant-loop-session : goal.invariant-loop-session
invariant-loop-session l = all_put l.sessions (drop l.session-index l.session-items) ≡ all_put finite.empty l.session-items
