use Rattle.std.proofs.Common.{◌∙◌, ap}
use Rattle.zab_epoch.specs.declared.role.Role.{Role}
use Rattle.zab_host.specs.LoneLeaders.{own_messages}
use Rattle.zab_host.specs.declared.vote.Vote.{Vote}
use Rattle.zk_requests.specs.declared.call.Call.{Call}
use Rattle.zk_server.specs.Deeds.{FailsAt, FailsToAct, HearsAll, LeadsNow}
use Rattle.zk_server.proofs.Acting.{leads_alone, own_fails}
use Rattle.zk_server.proofs.Results.{on_err_map, on_ok_map}
use Rattle.zk_server.proofs.choices.lead.Goals as goal

pub returns-clause-leads : goal.returns-clause-leads
returns-clause-leads g c =
    let may_recover = g.S.Storage.may_recover in
    let boots = g.S.Storage.boots in
    let mid = c.begin.new.host in
    let own = c.in_ok-own.own in
    on_ok_map c.receive_all.result (HearsAll may_recover boots c.args.me own mid c.receive_all.new.host) (LeadsNow may_recover boots c.args.me c.args.host.now c.receive_all.new.host)
    (λ hears. leads_alone may_recover boots c.args.me c.args.host.now mid c.receive_all.new.host own c.if-me-ne1.false
    (c.in_ok-own.ensures ∙ ap (λ (r : Role). own_messages {C = Call} r c.vote.result) c.role.ensures ∙ ap (λ (v : Vote). own_messages {C = Call} mid.host.state.peer.role v) c.vote.ensures)
    c.in_ok-begin.ensures.leads hears)
    c.receive_all.ensures.hears

pub returns-clause-fails : goal.returns-clause-fails
returns-clause-fails g c =
    let may_recover = g.S.Storage.may_recover in
    let boots = g.S.Storage.boots in
    let mid = c.begin.new.host in
    let own = c.in_ok-own.own in
    on_err_map c.receive_all.result (FailsAt may_recover boots c.args.me own mid c.receive_all.new.host) (FailsToAct may_recover boots c.args.me c.args.host.now c.receive_all.new.host)
    (λ fails. own_fails may_recover boots c.args.me c.args.host.now mid c.receive_all.new.host own c.if-me-ne1.false
    (c.in_ok-own.ensures ∙ ap (λ (r : Role). own_messages {C = Call} r c.vote.result) c.role.ensures ∙ ap (λ (v : Vote). own_messages {C = Call} mid.host.state.peer.role v) c.vote.ensures)
    c.in_ok-begin.ensures.leads fails)
    c.receive_all.ensures.fails
