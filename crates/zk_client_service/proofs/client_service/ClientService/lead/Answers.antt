use Rattle.std.proofs.Common.{◌≡◌, rules, ℤ, to_z, of_z, w64, subst, OnOk, refl}
use Rattle.zk_client_port.proofs.Frames.{on_ok}
use Rattle.zk_client_service.specs.Ensembles.{ensemble}
use Rattle.zk_client_service.specs.Elections.{Begins}
use Rattle.zk_client_service.proofs.client_service.ClientService.lead.Goals as goal

pub returns-clause-leads : goal.returns-clause-leads
returns-clause-leads g c =
    let fits : to_z w64 (of_z w64 c.args.now) ≡ c.args.now = search rules in
    let begins : OnOk c.begin.result (Begins g.S.Storage.may_recover g.S.Storage.boots c.args.now (ensemble (record c.args.self.now { peers = c.lead.new.self; ports = c.cut_off.new.ports })) (ensemble c.begin.new.self)) =
    subst (λ (now : ℤ). OnOk c.begin.result (Begins g.S.Storage.may_recover g.S.Storage.boots now (ensemble (record c.args.self.now { peers = c.lead.new.self; ports = c.cut_off.new.ports })) (ensemble c.begin.new.self))) fits c.begin.ensures in
    on_ok c.begin.result begins (λ it. record {
      between = ensemble (record c.args.self.now { peers = c.lead.new.self; ports = c.cut_off.new.ports });
      leads = c.in_ok-lead.ensures.leads;
      ports = c.cut_off.ensures.ports;
      rest = record { admission = refl; opened = refl; stops = refl };
      begins = it;
    })
