use Rattle.std.proofs.Common.{◌≡◌, rules, ℤ, to_z, of_z, w64, subst}
use Rattle.zk_client_service.specs.Ensembles.{ensemble}
use Rattle.zk_client_service.specs.Rounds.{TurnsFor}
use Rattle.zk_client_service.proofs.client_service.ClientService.settle.Goals as goal

pub returns : goal.returns
returns g c =
    let fits : to_z w64 (of_z w64 c.args.now) ≡ c.args.now = search rules in
    record {
      waits = c.in_ok-turn_for.field-0;
      turns = subst (λ (now : ℤ). TurnsFor g.S.Storage.may_recover g.S.Storage.boots 1000000 now (ensemble c.args.self.now) (ensemble c.turn_for.new.self) c.in_ok-turn_for.field-0) fits c.in_ok-turn_for.ensures.turns;
    }
