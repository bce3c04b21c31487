use Rattle.std.proofs.Common.{rules, ◌≡◌, Ok, Some, sym, ap, ◌∙◌}
use Rattle.zab_model.specs.declared.event.Event.TheVariants.{Crash}
use Rattle.zab_model.specs.Worlds.{World, Answer, profile_of, world, happens}
use Rattle.zab_model.specs.Movers.{mover}
use Rattle.zab_model.specs.Running.{is_running}
use Rattle.zab_world.specs.Rollbacks.{note_of}
use Rattle.zab_world.specs.Outputs.{sent}
use Rattle.zab_world.proofs.Back.{leads_back, noted, is_it}
use Rattle.zab_world.proofs.Living.{acted_by, happened, no_restart}
use Rattle.zab_world.proofs.steps.take_step.Goals as goal

pub returns-in_default-clause-counts : goal.returns-in_default-clause-counts
returns-in_default-clause-counts g c =
    let profile = profile_of (g.Q.Quorums.passes c.args.quorums.now) g.P.Primary.made_of g.P.Primary.tag_of g.P.Primary.closing_of in
    let w = world c.args.places.now c.args.messages.now c.args.tags.now in
    let v = world c.act.new.places c.args.messages.now c.args.tags.now in
    let is : Some c.in-Some.note ≡ note_of w c.args.event = search rules in
    let n = noted w c.args.event c.in-Some.note is in
    let acted : sent v (Ok c.in_ok-saying.saying) ≡ happens profile w c.args.event = acted_by profile w v c.args.event c.in_ok-saying.saying c.act.result (search rules) c.act.ensures.acts in
    let back = leads_back profile w c.args.event c.act.new.places c.send.new.messages c.send.new.tags (Some c.in-Some.note) is n.ran (ap (λ (p : World _ × Answer). p.0.servers) acted) c.send.ensures.goes in
    is_it (happens profile w (Crash (mover w c.args.event))).0 (world c.put_back.new.places c.put_back.new.messages c.put_back.new.tags) _ back c.put_back.ensures
    ∙ ap (λ k. (happens profile w (Crash k)).0) (sym n.server)

pub returns-in_default-clause-answers : goal.returns-in_default-clause-answers
returns-in_default-clause-answers g c =
    let profile = profile_of (g.Q.Quorums.passes c.args.quorums.now) g.P.Primary.made_of g.P.Primary.tag_of g.P.Primary.closing_of in
    let w = world c.args.places.now c.args.messages.now c.args.tags.now in
    let v = world c.act.new.places c.args.messages.now c.args.tags.now in
    let is : Some c.in-Some.note ≡ note_of w c.args.event = search rules in
    let n = noted w c.args.event c.in-Some.note is in
    let acted : sent v (Ok c.in_ok-saying.saying) ≡ happens profile w c.args.event = acted_by profile w v c.args.event c.in_ok-saying.saying c.act.result (search rules) c.act.ensures.acts in
    record { is = n.server; ran = ap (is_running w) n.server ∙ n.ran; no_restart = no_restart profile w v c.args.event c.in_ok-saying.saying n.ran acted }

pub returns-clause-counts : goal.returns-clause-counts
returns-clause-counts g c =
    let profile = profile_of (g.Q.Quorums.passes c.args.quorums.now) g.P.Primary.made_of g.P.Primary.tag_of g.P.Primary.closing_of in
    let w = world c.args.places.now c.args.messages.now c.args.tags.now in
    let v = world c.act.new.places c.args.messages.now c.args.tags.now in
    let acted : sent v (Ok c.in_ok-saying.saying) ≡ happens profile w c.args.event = acted_by profile w v c.args.event c.in_ok-saying.saying c.act.result (search rules) c.act.ensures.acts in
    ap (λ (p : World _ × Answer). p.0) (happened profile w v c.args.event c.in_ok-saying.saying (world c.act.new.places c.send.new.messages c.send.new.tags, Ok c.in-Ok.numbers) (c.in-Ok.ensures.sent c.act.new.places) acted)

pub returns-clause-answers : goal.returns-clause-answers
returns-clause-answers g c =
    let profile = profile_of (g.Q.Quorums.passes c.args.quorums.now) g.P.Primary.made_of g.P.Primary.tag_of g.P.Primary.closing_of in
    let w = world c.args.places.now c.args.messages.now c.args.tags.now in
    let v = world c.act.new.places c.args.messages.now c.args.tags.now in
    let acted : sent v (Ok c.in_ok-saying.saying) ≡ happens profile w c.args.event = acted_by profile w v c.args.event c.in_ok-saying.saying c.act.result (search rules) c.act.ensures.acts in
    sym (ap (λ (p : World _ × Answer). p.1) (happened profile w v c.args.event c.in_ok-saying.saying (world c.act.new.places c.send.new.messages c.send.new.tags, Ok c.in-Ok.numbers) (c.in-Ok.ensures.sent c.act.new.places) acted))

pub returns-clause-falls : goal.returns-clause-falls
returns-clause-falls g c = λ ran.
    let profile = profile_of (g.Q.Quorums.passes c.args.quorums.now) g.P.Primary.made_of g.P.Primary.tag_of g.P.Primary.closing_of in
    let w = world c.args.places.now c.args.messages.now c.args.tags.now in
    let v = world c.act.new.places c.args.messages.now c.args.tags.now in
    let acted : sent v (Ok c.in_ok-saying.saying) ≡ happens profile w c.args.event = acted_by profile w v c.args.event c.in_ok-saying.saying c.act.result (search rules) c.act.ensures.acts in
    leads_back profile w c.args.event c.act.new.places c.send.new.messages c.send.new.tags c.in_ok-note.note c.in_ok-note.ensures ran (ap (λ (p : World _ × Answer). p.0.servers) acted) c.send.ensures.goes
