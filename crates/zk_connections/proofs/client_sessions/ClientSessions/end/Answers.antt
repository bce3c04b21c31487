use Rattle.std.proofs.Common.{ℤ, w64, sym, ap, subst, ◌∙◌}
use Rattle.std.proofs.lemmas.Int.{to_z-of_z}
use Rattle.std.specs.List.Sorted.{IsStrictlySortedBy}
use Rattle.zk_connections.proofs.SessionOrder.{removed_ordered}
use Rattle.zk_connections.specs.Sessions.{session_cmp, without_session}
use Rattle.zk_connections.proofs.client_sessions.ClientSessions.end.Goals as goal

pub invariant_of-self : goal.invariant_of-self
invariant_of-self c =
    subst (IsStrictlySortedBy session_cmp) (sym (c.end_in.ensures ∙ ap (λ (id : ℤ). without_session id c.self.inside.sessions.items) (to_z-of_z w64 c.args.id c.ranges.id)))
    (removed_ordered c.args.id c.self.inside.sessions.items c.self.invariant)
