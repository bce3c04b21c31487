use Rattle.std.proofs.Common.{rules, ◌≡◌, Ok, Some, refl, sym, ap, subst, ◌∙◌}
use Rattle.zab_model.specs.ProcessStates.{ProcessState, standing}
use Rattle.zab_model.specs.Worlds.{running, message_at}
use Rattle.zab_world.specs.Adoptions.{acked_by}
use Rattle.zab_world.proofs.Adoptions.{foreseen, ran_is}
use Rattle.zab_world.proofs.adoption.predict_adoption.Goals as goal

pub returns-clause-foreseen : goal.returns-clause-foreseen
returns-clause-foreseen g c =
    let m = c.in-Some.message.now in
    let at = c.index-places-message.result in
    let it : ProcessState = standing c.place.inside.up c.place.inside.server in
    let is : message_at c.args.messages.now c.in-Arrive.number ≡ Some m = sym c.in-Some.ensures.message in
    let found : running c.args.places.now m.addressee ≡ Ok at = subst (λ (s : ProcessState). running c.args.places.now m.addressee ≡ Ok s) (sym c.index-places-message.is) (ran_is c.check_running.result _ c.check_running.ensures.found (sym c.is_err.ensures.value ∙ c.if-is_err.false) at) in
    let runs : running c.args.places.now m.addressee ≡ Ok it = subst (λ (s : ProcessState). running c.args.places.now m.addressee ≡ Ok s) (sym c.place.view_is) found in
    let long : c.acknowledged.result ≡ acked_by it.state.peer.stable c.in-NewLeader.epoch c.in-NewLeader.keep c.in-NewLeader.rest = search rules in
    foreseen c.args.places.now c.args.messages.now c.args.event.now _ c.in-NewLeader.keep c.in-NewLeader.rest m it c.in-Arrive.is is c.in-NewLeader.is runs (ap (λ s. s.peer.me) c.state-state.ensures.same) refl long c.state-state.ensures.delivered
