use Rattle.std.proofs.Common.{◌≡◌, Ok}
use Rattle.std.proofs.lemmas.Result.{IfOk-weaker}
use Rattle.zab_model.specs.Worlds.{profile_of, world, arrives, message_at}
use Rattle.zab_world.specs.Rollbacks.{fallen_by}
use Rattle.zab_world.proofs.Adoptions.{joined_falls, steps_fall}
use Rattle.zab_world.proofs.adoption.advance.Goals as goal

pub returns-in_default-clause-falls : goal.returns-in_default-clause-falls
returns-in_default-clause-falls g c =
    let profile = profile_of (g.Q.Quorums.passes c.args.quorums.now) g.P.Primary.made_of g.P.Primary.tag_of g.P.Primary.closing_of in
    let w = world c.args.places.now c.args.messages.now c.args.tags.now in
    let next = world c.take_step.new.places c.take_step.new.messages c.take_step.new.tags in
    IfOk-weaker c.take_step.result _ _
    (λ told falls. steps_fall profile w next c.args.event (fallen_by c.take_step.new.places c.take_step.new.messages c.take_step.new.tags told.0) (c.predict_adoption.ensures.other c.in_default.is c.args.tags.now) falls)
    c.take_step.ensures.falls

pub returns-clause-falls : goal.returns-clause-falls
returns-clause-falls g c = λ ran.
    let profile = profile_of (g.Q.Quorums.passes c.args.quorums.now) g.P.Primary.made_of g.P.Primary.tag_of g.P.Primary.closing_of in
    let w = world c.args.places.now c.args.messages.now c.args.tags.now in
    let next = world c.join.new.places c.join.new.messages c.args.tags.now in
    let acted : (next, Ok c.in_ok-moved.moved) ≡ arrives profile.setting w (message_at w.messages c.in-Some.joining.number) = c.in_ok-moved.ensures.acts c.args.tags.now (λ e. absurd cc) in
    joined_falls profile w next c.args.event c.in-Some.joining c.in_ok-moved.moved c.in-Some.ensures.foreseen ran acted
