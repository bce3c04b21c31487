use Rattle.std.proofs.Common.{◌≡◌, rules, ℤ, to_z, of_z, w64, subst, Bool, ℕ, true, false, sym, add-one, refl, arith}
use Rattle.zk_client_service.proofs.Turning.{round_more}
use Rattle.zk_client_service.specs.Ensembles.{ensemble}
use Rattle.zk_client_service.specs.Rounds.{Round, Rounds, Settled, Unsettled}
use Rattle.zk_client_service.proofs.client_service.ClientService.turn_for.Goals as goal

pub returns-then-not-branch-clause-turns : goal.returns-then-not-branch-clause-turns
returns-then-not-branch-clause-turns g c =
    let fits : to_z w64 (of_z w64 c.args.now) ≡ c.args.now = search rules in
    let round : Round g.S.Storage.may_recover g.S.Storage.boots c.args.now (ensemble c.rounds.self) (ensemble c.turn_all.new.self) c.in_ok-turn_all.field-0 =
    subst (λ (now : ℤ). Round g.S.Storage.may_recover g.S.Storage.boots now (ensemble c.rounds.self) (ensemble c.turn_all.new.self) c.in_ok-turn_all.field-0) fits c.in_ok-turn_all.ensures.round in
    Settled c.rounds.made (search rules) (ensemble c.rounds.self) (ensemble c.turn_all.new.self)
    (subst (λ (now : ℤ). Rounds g.S.Storage.may_recover g.S.Storage.boots c.rounds.made now (ensemble c.args.self.now) (ensemble c.rounds.self)) fits c.rounds.invariant)
    (subst (λ (waits : Bool). Round g.S.Storage.may_recover g.S.Storage.boots c.args.now (ensemble c.rounds.self) (ensemble c.turn_all.new.self) waits) c.if-not-branch.true round) c.cut_off_unserved.ensures refl

pub rounds-preserved : goal.rounds-preserved
rounds-preserved g c =
    subst (λ (made : ℕ). Rounds g.S.Storage.may_recover g.S.Storage.boots made (to_z w64 (of_z w64 c.args.now)) (ensemble c.args.self.now) (ensemble c.turn_all.new.self)) (sym (add-one c.rounds.made))
    (round_more g.S.Storage.may_recover g.S.Storage.boots (to_z w64 (of_z w64 c.args.now)) c.rounds.made (ensemble c.args.self.now) (ensemble c.rounds.self) (ensemble c.turn_all.new.self) c.rounds.invariant
    (subst (λ (waits : Bool). Round g.S.Storage.may_recover g.S.Storage.boots (to_z w64 (of_z w64 c.args.now)) (ensemble c.rounds.self) (ensemble c.turn_all.new.self) waits) c.if-not-branch.false c.in_ok-turn_all.ensures.round))

pub returns-clause-turns : goal.returns-clause-turns
returns-clause-turns g c =
    let fits : to_z w64 (of_z w64 c.args.now) ≡ c.args.now = search rules in
    Unsettled c.rounds.made (omega arith) (subst (λ (now : ℤ). Rounds g.S.Storage.may_recover g.S.Storage.boots c.rounds.made now (ensemble c.args.self.now) (ensemble c.rounds.self)) fits c.rounds.invariant) refl
