use Rattle.std.proofs.Common.{◌∙◌, ℤ, w64, Some, Ok, Err, find, get_or, sym, ap, subst}
use Rattle.std.proofs.lemmas.Int.{to_z-of_z}
use Rattle.zk_connections.specs.Sessions.{has_id, new_session, IsSessionPlace}
use Rattle.zk_connections.proofs.client_sessions.ClientSessions.session.Goals as goal

pub returns-in-Ok : goal.returns-in-Ok
returns-in-Ok c =
    let place = subst (λ (id : ℤ). IsSessionPlace id c.deref.result.now (Ok c.in-Ok.at)) (to_z-of_z w64 c.args.id c.ranges.id) c.in-Ok.ensures.place in
    ap Some c.index.ensures
    ∙ ap (λ l. Some (get_or l c.in-Ok.at c.index.result.now)) (sym c.deref.ensures.value)
    ∙ sym (place (λ it. it) c.index.result.now).0
    ∙ ap (find (has_id c.args.id)) (c.deref.ensures.value ∙ c.self.view_is)

pub returns-in-Err : goal.returns-in-Err
returns-in-Err c =
    let place = subst (λ (id : ℤ). IsSessionPlace id c.deref.result.now (Err c.in-Err.field-0)) (to_z-of_z w64 c.args.id c.ranges.id) c.in-Err.ensures.place in
    sym (place (λ it. it) (new_session c.args.id c.args.id c.args.id)).0 ∙ ap (find (has_id c.args.id)) (c.deref.ensures.value ∙ c.self.view_is)
