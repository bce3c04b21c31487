use Rattle.std.proofs.Common.{refl, sym, subst}
use Rattle.std.specs.List.Sorted.{IsStrictlySortedBy}
use Rattle.zk_connections.proofs.SessionOrder.{changed_ordered}
use Rattle.zk_connections.specs.Sessions.{detached, is_at, session_cmp}
use Rattle.zk_connections.proofs.client_sessions.ClientSessions.detach.Goals as goal

pub invariant_of-self : goal.invariant_of-self
invariant_of-self c = subst (IsStrictlySortedBy session_cmp) (sym c.detach_in.ensures) (changed_ordered (is_at c.args.connection) detached (λ it. refl) c.self.inside.sessions.items c.self.invariant)
