use Rattle.std.proofs.Common.{◌≢◌, Err, refl}
use Rattle.zab_host.specs.declared.fault.HostFault.TheVariants as host_faults
use Rattle.zab_host.specs.Hosts.{Follows}
use Rattle.zk_server.specs.Deeds.{TakesBy}
use Rattle.zk_server.proofs.Results.{on_ok_map}
use Rattle.zk_server.proofs.Taking.{takes_light}
use Rattle.zk_server.proofs.choices.follow.Goals as goal

pub returns-clause-follows : goal.returns-clause-follows
returns-clause-follows g c =
    let may_recover = g.S.Storage.may_recover in
    let boots = g.S.Storage.boots in
    on_ok_map c.stop_if_lost.result (c.follow-stepped.result ≢ Err host_faults.NoMemory) (TakesBy may_recover boots c.args.me (Follows c.args.leader) c.args.host.now c.follow-stepped.new.self)
    (λ fine. takes_light may_recover boots c.args.me c.stores_keep_first_inputs.ensures c.args.host.now c.follow-stepped.new.self c.follow-stepped.ensures.rest (Follows c.args.leader) c.follow-stepped.result refl tt fine c.follow-stepped.ensures.steps)
    c.stop_if_lost.ensures.goes_on
