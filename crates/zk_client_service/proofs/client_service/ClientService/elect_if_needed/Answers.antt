use Rattle.std.proofs.Common.{◌≡◌, rules, ℤ, to_z, of_z, w64, subst, OnOk, ◌∙◌, sym}
use Rattle.zk_client_port.proofs.Frames.{on_ok}
use Rattle.zk_client_service.specs.Ensembles.{ensemble}
use Rattle.zk_client_service.specs.Elections.{ElectsLeader, Led, Lost, Settles}
use Rattle.zk_client_service.proofs.client_service.ClientService.elect_if_needed.Goals as goal

pub returns-then-is_led : goal.returns-then-is_led
returns-then-is_led g c =
    let fits : to_z w64 (of_z w64 c.args.now) ≡ c.args.now = search rules in
    on_ok c.settle.result (subst (λ (now : ℤ). OnOk c.settle.result (Settles g.S.Storage.may_recover g.S.Storage.boots now (ensemble c.args.self.now) (ensemble c.settle.new.self))) fits c.settle.ensures)
    (λ settles. Led (sym c.is_led.ensures ∙ c.if-is_led.true) settles)

pub returns : goal.returns
returns g c =
    let fits : to_z w64 (of_z w64 c.args.now) ≡ c.args.now = search rules in
    on_ok c.elect.result (subst (λ (now : ℤ). OnOk c.elect.result (ElectsLeader g.S.Storage.may_recover g.S.Storage.boots now (ensemble c.args.self.now) (ensemble c.elect.new.self))) fits c.elect.ensures)
    (λ elects. Lost (sym c.is_led.ensures ∙ c.if-is_led.false) elects)
