use Rattle.std.proofs.Common.{rules, ◌≢◌, Result, Err, ap}
use Rattle.zab_host.specs.declared.fault.HostFault.{HostFault}
use Rattle.zab_host.specs.declared.fault.HostFault.TheVariants as host_faults
use Rattle.zab_host.specs.declared.fault.ReceiveFault.TheVariants as receive_faults
use Rattle.zab_host.specs.Hosts.{IsRejected, Receives}
use Rattle.zk_server.specs.Deeds.{setting_for, TakesBy}
use Rattle.zk_server.proofs.Results.{on_ok_map}
use Rattle.zk_server.proofs.Taking.{fails_to_store, takes_rejected}
use Rattle.zk_server.proofs.mail.receive_whole.Goals as goal

pub returns-in-Err-Host-clause-hears : goal.returns-in-Err-Host-clause-hears
returns-in-Err-Host-clause-hears g c =
    let may_recover = g.S.Storage.may_recover in
    let boots = g.S.Storage.boots in
    let stepped : Result (Unit {0}) HostFault = Err c.in-Err-Host.fault in
    let rejected : IsRejected may_recover (setting_for c.args.me.servers) c.args.host.now.host (Receives c.args.message.now) c.receive_and_store.new.self.host (receive_faults.Host c.in-Err-Host.fault) = search rules in
    on_ok_map c.stop_if_lost.result (stepped ≢ Err host_faults.NoMemory) (TakesBy may_recover boots c.args.me (Receives c.args.message.now) c.args.host.now c.receive_and_store.new.self)
    (λ fine. takes_rejected may_recover boots c.args.me c.stores_keep_first_inputs.ensures c.args.host.now c.receive_and_store.new.self c.receive_and_store.ensures.rest
    c.args.message.now c.receive_and_store.ensures.boots c.in-Err-Host.fault (λ e. fine (ap Err e)) rejected)
    c.stop_if_lost.ensures.goes_on

pub returns-in-Err-Store-clause-fails : goal.returns-in-Err-Store-clause-fails
returns-in-Err-Store-clause-fails g c =
    let may_recover = g.S.Storage.may_recover in
    let boots = g.S.Storage.boots in
    let rejected : IsRejected may_recover (setting_for c.args.me.servers) c.args.host.now.host (Receives c.args.message.now) c.receive_and_store.new.self.host (receive_faults.Store c.in-Err-Store.fault) = search rules in
    fails_to_store may_recover boots c.args.me c.stores_keep_first_inputs.ensures c.args.host.now c.receive_and_store.new.self c.receive_and_store.ensures.rest
    c.args.message.now c.receive_and_store.ensures.boots c.receive_and_store.ensures.crash c.in-Err-Store.fault rejected
