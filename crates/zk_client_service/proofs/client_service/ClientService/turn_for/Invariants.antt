-- The rounds so far each need another.
use Rattle.zk_client_service.specs.Ensembles.{ensemble}
use Rattle.zk_client_service.specs.Rounds.{Rounds}
use Rattle.zk_client_service.proofs.client_service.ClientService.turn_for.Given as goal

abbrev pub invariant-rounds : goal.invariant-rounds
invariant-rounds g l = Rounds g.S.Storage.may_recover g.S.Storage.boots l.made l.fn.now (ensemble l.fn.self) (ensemble l.self)
