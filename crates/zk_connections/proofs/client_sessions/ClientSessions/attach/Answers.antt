use Rattle.std.proofs.Common.{◌≡◌, ◌∙◌, ℤ, w32, w64, Ok, Err, get_or, refl, set, sym, ap, subst}
use Rattle.std.proofs.Common.{to_z, of_z}
use Rattle.std.proofs.lemmas.Int.{to_z-of_z}
use Rattle.std.specs.List.Sorted.{IsStrictlySortedBy}
use Rattle.zk_connections.proofs.SessionOrder.{changed_ordered}
use Rattle.zk_connections.specs.Sessions.{attached, has_id, new_session, session_cmp, with_first, IsSessionPlace}
use Rattle.zk_connections.proofs.client_sessions.ClientSessions.attach.Goals as goal

pub invariant_of-self : goal.invariant_of-self
invariant_of-self c =
    let items = c.self.inside.sessions.items in
    let change = attached c.args.connection c.args.timeout c.args.now in
    let place = subst (λ (id : ℤ). IsSessionPlace id c.deref.result.now (Ok c.in-Ok.at)) (to_z-of_z w64 c.args.id c.ranges.id) c.in-Ok.ensures.place in
    let changes : set items c.in-Ok.at c.attach.new.self ≡ with_first (has_id c.args.id) change items =
    ap (set items c.in-Ok.at) (c.attach.ensures
    ∙ ap (λ (timeout : ℤ). attached c.args.connection timeout (to_z w64 (of_z w64 c.args.now)) c.index_mut.result.now) (to_z-of_z w32 c.args.timeout c.ranges.timeout)
    ∙ ap (λ (now : ℤ). attached c.args.connection c.args.timeout now c.index_mut.result.now) (to_z-of_z w64 c.args.now c.ranges.now) ∙ ap change c.index_mut.ensures.value)
    ∙ ap (λ l. set l c.in-Ok.at (change (get_or l c.in-Ok.at c.index_mut.result.now))) (sym c.deref.ensures.value)
    ∙ sym (place change c.index_mut.result.now).1
    ∙ ap (with_first (has_id c.args.id) change) c.deref.ensures.value in
    subst (IsStrictlySortedBy session_cmp) (sym changes) (changed_ordered (has_id c.args.id) change (λ it. refl) items c.self.invariant)

pub returns-in-Ok : goal.returns-in-Ok
returns-in-Ok c =
    let items = c.self.inside.sessions.items in
    let change = attached c.args.connection c.args.timeout c.args.now in
    let place = subst (λ (id : ℤ). IsSessionPlace id c.deref.result.now (Ok c.in-Ok.at)) (to_z-of_z w64 c.args.id c.ranges.id) c.in-Ok.ensures.place in
    let changes : set items c.in-Ok.at c.attach.new.self ≡ with_first (has_id c.args.id) change items =
    ap (set items c.in-Ok.at) (c.attach.ensures
    ∙ ap (λ (timeout : ℤ). attached c.args.connection timeout (to_z w64 (of_z w64 c.args.now)) c.index_mut.result.now) (to_z-of_z w32 c.args.timeout c.ranges.timeout)
    ∙ ap (λ (now : ℤ). attached c.args.connection c.args.timeout now c.index_mut.result.now) (to_z-of_z w64 c.args.now c.ranges.now) ∙ ap change c.index_mut.ensures.value)
    ∙ ap (λ l. set l c.in-Ok.at (change (get_or l c.in-Ok.at c.index_mut.result.now))) (sym c.deref.ensures.value)
    ∙ sym (place change c.index_mut.result.now).1
    ∙ ap (with_first (has_id c.args.id) change) c.deref.ensures.value in
    changes ∙ ap (with_first (has_id c.args.id) change) c.self.view_is

pub returns-in-Err : goal.returns-in-Err
returns-in-Err c =
    let change = attached c.args.connection c.args.timeout c.args.now in
    let place = subst (λ (id : ℤ). IsSessionPlace id c.deref.result.now (Err c.in-Err.field-0)) (to_z-of_z w64 c.args.id c.ranges.id) c.in-Err.ensures.place in
    sym (c.deref.ensures.value ∙ c.self.view_is) ∙ sym (place change (new_session c.args.id c.args.id c.args.id)).1 ∙ ap (with_first (has_id c.args.id) change) (c.deref.ensures.value ∙ c.self.view_is)
