use Rattle.std.proofs.Common.{◌≢◌, Err, refl}
use Rattle.zab_host.specs.declared.fault.HostFault.TheVariants as host_faults
use Rattle.zab_host.specs.Hosts.{Leads}
use Rattle.zk_server.specs.Deeds.{TakesBy}
use Rattle.zk_server.proofs.Results.{on_ok_map}
use Rattle.zk_server.proofs.Taking.{takes_light}
use Rattle.zk_server.proofs.choices.begin.Goals as goal

pub returns-clause-leads : goal.returns-clause-leads
returns-clause-leads g c =
    let may_recover = g.S.Storage.may_recover in
    let boots = g.S.Storage.boots in
    on_ok_map c.stop_if_lost.result (c.lead-stepped.result ≢ Err host_faults.NoMemory) (TakesBy may_recover boots c.args.me (Leads) c.args.host.now c.lead-stepped.new.self)
    (λ fine. takes_light may_recover boots c.args.me c.stores_keep_first_inputs.ensures c.args.host.now c.lead-stepped.new.self c.lead-stepped.ensures.rest (Leads) c.lead-stepped.result refl tt fine c.lead-stepped.ensures.steps)
    c.stop_if_lost.ensures.goes_on
