use Rattle.std.proofs.Common.{◌≢◌, Err, refl}
use Rattle.zab_host.specs.declared.fault.HostFault.TheVariants as host_faults
use Rattle.zab_host.specs.Hosts.{Receives}
use Rattle.zk_server.specs.Deeds.{TakesBy}
use Rattle.zk_server.proofs.Results.{on_ok_map}
use Rattle.zk_server.proofs.Taking.{takes_light}
use Rattle.zk_server.proofs.mail.receive_light.Goals as goal

pub returns-clause-hears : goal.returns-clause-hears
returns-clause-hears g c =
    let may_recover = g.S.Storage.may_recover in
    let boots = g.S.Storage.boots in
    on_ok_map c.stop_if_lost.result (c.receive-received.result ≢ Err host_faults.NoMemory) (TakesBy may_recover boots c.args.me (Receives c.args.message.now) c.args.host.now c.receive-received.new.self)
    (λ fine. takes_light may_recover boots c.args.me c.stores_keep_first_inputs.ensures c.args.host.now c.receive-received.new.self c.receive-received.ensures.rest (Receives c.args.message.now) c.receive-received.result refl c.requires.append_only fine c.receive-received.ensures.steps)
    c.stop_if_lost.ensures.goes_on
