use Rattle.std.proofs.Common.{rules, ◌≡◌, ◌-◌, ◌++◌, ◌∷◌, [], ◌∙◌, ap, set, Some, length}
use Rattle.zab_broadcast.specs.Rules.{took}
use Rattle.zab_broadcast.proofs.Appending.{took_is}
use Rattle.zab_broadcast.proofs.server.Server.take_call.Goals as goal

pub returns-clause-took : goal.returns-clause-took
returns-clause-took g c =
    let state = c.self.inside.state in
    let now = c.args.self.now in
    let same : state ≡ now = search rules in
    let entry = c.in_ok-entry.entry in
    let made = g.P.Primary.made_of now.peer.stable.history c.args.call.now c.args.zxid in
    let history_is : c.push-2.new.self ≡ state.peer.stable.history ++ entry ∷ [] = search rules in
    let taken_is : c.push.new.self ≡ state.taken ++ entry.tag ∷ [] = search rules in
    let has_is : c.replace-before.new.self ≡ set state.has (state.peer.me - 1) (Some c.len-length.result) = search rules in
    let all : c.len-length.result ≡ length c.push-2.new.self = search rules in
    let is : entry ≡ made = search rules in
    took_is state entry made c.push-2.new.self c.push.new.self c.replace-before.new.self c.len-length.result history_is taken_is has_is all is
    ∙ ap (λ s. took s made) same
