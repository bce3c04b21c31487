use Rattle.std.proofs.Common.{◌≡◌, rules, ℤ, to_z, of_z, w64, subst, OnOk, refl}
use Rattle.zk_client_port.proofs.Frames.{on_ok}
use Rattle.zk_client_service.specs.Ensembles.{ensemble}
use Rattle.zk_client_service.specs.Elections.{ElectsIfNeeded}
use Rattle.zk_client_service.proofs.client_service.ClientService.restart.Goals as goal

pub returns-clause-restarts : goal.returns-clause-restarts
returns-clause-restarts g c =
    let fits : to_z w64 (of_z w64 c.args.now) ≡ c.args.now = search rules in
    let elects : OnOk c.elect_if_needed.result (ElectsIfNeeded g.S.Storage.may_recover g.S.Storage.boots c.args.now (ensemble (record c.args.self.now { peers = c.restart.new.self })) (ensemble c.elect_if_needed.new.self)) =
    subst (λ (now : ℤ). OnOk c.elect_if_needed.result (ElectsIfNeeded g.S.Storage.may_recover g.S.Storage.boots now (ensemble (record c.args.self.now { peers = c.restart.new.self })) (ensemble c.elect_if_needed.new.self))) fits c.elect_if_needed.ensures in
    on_ok c.elect_if_needed.result elects (λ it. record {
      between = ensemble (record c.args.self.now { peers = c.restart.new.self });
      restarts = c.in_ok-restart.ensures.restarts;
      ports = refl;
      rest = record { admission = refl; opened = refl; stops = refl };
      elects = it;
    })
