use Rattle.std.proofs.Common.{◌≡◌, rules, ℤ, to_z, of_z, w64, subst, Bool, ℕ, ◌+◌, ◌||◌, ◌∙◌, suc, length, sym, ap, add-one, refl, arith}
use Rattle.zk_client_service.proofs.Changing.{ports_length}
use Rattle.zk_client_service.proofs.Settling.{none_left}
use Rattle.zk_client_service.proofs.Turning.{one_more}
use Rattle.zk_client_service.specs.Ensembles.{ensemble}
use Rattle.zk_client_service.specs.Ports.{ports_of}
use Rattle.zk_client_service.specs.Rounds.{FirstTurn}
use Rattle.zk_client_service.proofs.client_service.ClientService.turn_all.Goals as goal

pub servers-preserved : goal.servers-preserved
servers-preserved g c =
    subst (λ (servers : ℕ). FirstTurn g.S.Storage.may_recover g.S.Storage.boots servers (to_z w64 (of_z w64 c.args.now)) (ensemble (record c.args.self.now { peers = c.next_round.new.self })) (ensemble c.turn.new.self) c.either-waits.result) (sym (add-one c.servers.index))
    (subst (λ (waits : Bool). FirstTurn g.S.Storage.may_recover g.S.Storage.boots (suc c.servers.index) (to_z w64 (of_z w64 c.args.now)) (ensemble (record c.args.self.now { peers = c.next_round.new.self })) (ensemble c.turn.new.self) waits) (sym c.either-waits.ensures)
    (one_more g.S.Storage.may_recover g.S.Storage.boots (to_z w64 (of_z w64 c.args.now)) c.servers.index (ensemble (record c.args.self.now { peers = c.next_round.new.self })) (ensemble c.servers.self) (ensemble c.receive.new.self) (ensemble c.turn.new.self) c.servers.waits c.in_ok-turn.field-0
    c.servers.invariant c.in_ok-receive.ensures c.in_ok-turn.ensures))

pub returns-clause-round : goal.returns-clause-round
returns-clause-round g c =
    let fits : to_z w64 (of_z w64 c.args.now) ≡ c.args.now = search rules in
    let all : c.servers.index ≡ length c.args.self.now.ports.items = omega arith in
    record {
      before = ensemble (record c.args.self.now { peers = c.next_round.new.self });
      arrives = record { arriving = c.next_round.ensures.arrives; posted = c.next_round.ensures.posted; servers = c.next_round.ensures.rest; ports = refl; rest = record { admission = refl; opened = refl; stops = refl } };
      some = c.servers.waits;
      turns =
          subst (λ (servers : ℕ). FirstTurn g.S.Storage.may_recover g.S.Storage.boots servers c.args.now (ensemble (record c.args.self.now { peers = c.next_round.new.self })) (ensemble c.servers.self) c.servers.waits)
          (all ∙ sym (ports_length c.args.self.now.ports.items))
          (subst (λ (now : ℤ). FirstTurn g.S.Storage.may_recover g.S.Storage.boots c.servers.index now (ensemble (record c.args.self.now { peers = c.next_round.new.self })) (ensemble c.servers.self) c.servers.waits) fits c.servers.invariant);
      waits_is = c.either.ensures ∙ ap (λ (has : Bool). c.servers.waits || has) c.has_mail.ensures;
    }

pub returns-clause-mail : goal.returns-clause-mail
returns-clause-mail g c = λ neither. none_left c.servers.waits c.has_mail.result c.servers.self.peers.posted c.has_mail.ensures (sym c.either.ensures ∙ neither)
