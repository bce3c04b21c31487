use Rattle.std.proofs.Common.{◌≡◌, false, Some, slice_get, sym, ◌∙◌, subst, rules}
use Rattle.zk_peers.specs.Hosts.{setting_for, HearsAll}
use Rattle.zk_peers.specs.Links.{is_cut, mail_for, listed}
use Rattle.zk_peers.proofs.Hearing.{hears_own}
use Rattle.zk_peers.proofs.mail.receive_at.Goals as goal

pub returns : goal.returns
returns g c =
    let message = c.in-Some.message.now in
    let is : Some message ≡ slice_get c.args.mail.now c.args.index = c.in-Some.ensures.found in
    let mine : message.addressee ≡ c.args.server = search rules in
    let whole : is_cut c.args.cuts.now message.sender c.args.server ≡ false = sym c.is_cut.ensures ∙ c.if-is_cut.false in
    let may_recover = g.S.Storage.may_recover in
    let boots = g.S.Storage.boots in
    let setting = setting_for c.args.quorums.now.servers in
    let mail = mail_for c.args.cuts.now c.args.server (listed (slice_get c.args.mail.now c.args.index)) in
    subst (λ host. HearsAll may_recover boots setting mail host c.receive.new.host) c.number_next.ensures
    (hears_own may_recover boots setting c.args.cuts.now c.args.server c.number_next.new.host c.receive.new.host c.args.mail.now c.args.index message
    is mine whole c.in_ok-receive.ensures)
