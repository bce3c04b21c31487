use Rattle.std.proofs.Common.{sym, subst}
use Rattle.std.specs.List.Sorted.{IsStrictlySortedBy}
use Rattle.zk_connections.proofs.SessionOrder.{none_ordered}
use Rattle.zk_connections.specs.Sessions.{session_cmp}
use Rattle.zk_connections.proofs.client_sessions.ClientSessions.new.Goals as goal

pub invariant_of-result : goal.invariant_of-result
invariant_of-result c = subst (IsStrictlySortedBy session_cmp) (sym c.new.ensures.items) none_ordered
