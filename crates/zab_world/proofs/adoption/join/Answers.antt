use Rattle.std.proofs.Common.{◌≢◌, ◌∙◌, length, sym}
use Rattle.zab_broadcast.specs.Calls.{setting_of}
use Rattle.zab_world.proofs.Adoptions.{IsHeard, joined_said, joined_silent, joined_refused}
use Rattle.zab_world.proofs.adoption.join.Goals as goal

pub returns-in-Err-clause-acts : goal.returns-in-Err-clause-acts
returns-in-Err-clause-acts g c = λ tags kept.
    let setting = setting_of (g.Q.Quorums.passes c.args.quorums.now) g.P.Primary.made_of g.P.Primary.tag_of in
    let h : IsHeard setting c.args.places.now c.arrive.new.places c.send.new.self c.args.joining.number c.arrive.result = record { acts = c.arrive.ensures.acts; ran = c.arrive.ensures.ran } in
    joined_refused setting c.args.places.now c.arrive.new.places c.args.messages.now c.send.new.self c.cut.new.self c.args.joining c.len-before.result c.arrive.result c.in-Err.fault tags c.requires.foreseen c.len-before.ensures.value c.in_ok-send.ensures.ok h c.in-Err.is kept c.cut.ensures

pub returns-then-len-eq0-clause-acts : goal.returns-then-len-eq0-clause-acts
returns-then-len-eq0-clause-acts g c = λ tags kept.
    let setting = setting_of (g.Q.Quorums.passes c.args.quorums.now) g.P.Primary.made_of g.P.Primary.tag_of in
    let h : IsHeard setting c.args.places.now c.arrive.new.places c.send.new.self c.args.joining.number c.arrive.result = record { acts = c.arrive.ensures.acts; ran = c.arrive.ensures.ran } in
    joined_silent setting c.args.places.now c.arrive.new.places c.args.messages.now c.send.new.self c.cut-then-len-eq0.new.self c.args.joining c.len-before.result c.arrive.result c.in-Ok.said tags c.requires.foreseen c.len-before.ensures.value c.in_ok-send.ensures.ok h c.in-Ok.is (sym c.len.ensures.value ∙ c.if-len-eq0.true) c.cut-then-len-eq0.ensures

pub returns-clause-acts : goal.returns-clause-acts
returns-clause-acts g c = λ tags kept.
    let setting = setting_of (g.Q.Quorums.passes c.args.quorums.now) g.P.Primary.made_of g.P.Primary.tag_of in
    let h : IsHeard setting c.args.places.now c.arrive.new.places c.send.new.self c.args.joining.number c.arrive.result = record { acts = c.arrive.ensures.acts; ran = c.arrive.ensures.ran } in
    let some : length c.in-Ok.said ≢ 0 = (λ e. c.if-len-eq0.false (c.len.ensures.value ∙ e)) in
    joined_said setting c.args.places.now c.arrive.new.places c.args.messages.now c.send.new.self c.args.joining c.len-before.result c.arrive.result c.in-Ok.said tags c.requires.foreseen c.len-before.ensures.value c.in_ok-send.ensures.ok h c.in-Ok.is some
