use Rattle.std.proofs.Common.{◌≡◌, ◌∙◌, ℤ, w32, w64, Ok, Err, refl, insert, sym, ap, subst}
use Rattle.std.proofs.Common.{to_z, of_z}
use Rattle.std.proofs.lemmas.Int.{to_z-of_z}
use Rattle.std.specs.List.Sorted.{IsStrictlySortedBy}
use Rattle.zk_connections.proofs.SessionOrder.{opened_ordered}
use Rattle.zk_connections.specs.Sessions.{new_session, session_cmp, touched, with_opened, IsSessionPlace}
use Rattle.zk_connections.proofs.client_sessions.ClientSessions.open.Goals as goal

pub invariant_of-self : goal.invariant_of-self
invariant_of-self c =
    let items = c.self.inside.sessions.items in
    let new = new_session c.args.id c.args.timeout c.args.now in
    let place = subst (λ (id : ℤ). IsSessionPlace id c.deref.result.now (Err c.in-Err.at)) (to_z-of_z w64 c.args.id c.ranges.id) c.in-Err.ensures.place in
    let is_new : c.new.result ≡ new =
    c.new.ensures
    ∙ ap (λ (id : ℤ). new_session id (to_z w32 (of_z w32 c.args.timeout)) (to_z w64 (of_z w64 c.args.now))) (to_z-of_z w64 c.args.id c.ranges.id)
    ∙ ap (λ (timeout : ℤ). new_session c.args.id timeout (to_z w64 (of_z w64 c.args.now))) (to_z-of_z w32 c.args.timeout c.ranges.timeout)
    ∙ ap (λ (now : ℤ). new_session c.args.id c.args.timeout now) (to_z-of_z w64 c.args.now c.ranges.now) in
    let opens : c.insert.new.self.items ≡ with_opened new items =
    c.in_ok-insert-in-Err.ensures.items
    ∙ ap (insert items c.in-Err.at) is_new
    ∙ ap (λ l. insert l c.in-Err.at new) (sym c.deref.ensures.value)
    ∙ sym ((place (touched c.args.now) new).2 refl)
    ∙ ap (with_opened new) c.deref.ensures.value in
    subst (IsStrictlySortedBy session_cmp) (sym opens) (opened_ordered new items c.self.invariant)

pub returns-in_ok-insert-in-Err-clause-opened : goal.returns-in_ok-insert-in-Err-clause-opened
returns-in_ok-insert-in-Err-clause-opened c =
    let items = c.self.inside.sessions.items in
    let new = new_session c.args.id c.args.timeout c.args.now in
    let place = subst (λ (id : ℤ). IsSessionPlace id c.deref.result.now (Err c.in-Err.at)) (to_z-of_z w64 c.args.id c.ranges.id) c.in-Err.ensures.place in
    let is_new : c.new.result ≡ new =
    c.new.ensures
    ∙ ap (λ (id : ℤ). new_session id (to_z w32 (of_z w32 c.args.timeout)) (to_z w64 (of_z w64 c.args.now))) (to_z-of_z w64 c.args.id c.ranges.id)
    ∙ ap (λ (timeout : ℤ). new_session c.args.id timeout (to_z w64 (of_z w64 c.args.now))) (to_z-of_z w32 c.args.timeout c.ranges.timeout)
    ∙ ap (λ (now : ℤ). new_session c.args.id c.args.timeout now) (to_z-of_z w64 c.args.now c.ranges.now) in
    let opens : c.insert.new.self.items ≡ with_opened new items =
    c.in_ok-insert-in-Err.ensures.items
    ∙ ap (insert items c.in-Err.at) is_new
    ∙ ap (λ l. insert l c.in-Err.at new) (sym c.deref.ensures.value)
    ∙ sym ((place (touched c.args.now) new).2 refl)
    ∙ ap (with_opened new) c.deref.ensures.value in
    opens ∙ ap (with_opened new) c.self.view_is

pub returns-in-Ok-clause-opened : goal.returns-in-Ok-clause-opened
returns-in-Ok-clause-opened c =
    let place = subst (λ (id : ℤ). IsSessionPlace id c.deref.result.now (Ok c.in-Ok.field-0)) (to_z-of_z w64 c.args.id c.ranges.id) c.in-Ok.ensures.place in
    let new = new_session c.args.id c.args.timeout c.args.now in
    sym (c.deref.ensures.value ∙ c.self.view_is) ∙ sym ((place (touched c.args.now) new).2 new refl) ∙ ap (with_opened new) (c.deref.ensures.value ∙ c.self.view_is)
