-- The servers so far have had their turn.
use Rattle.zk_client_service.specs.Ensembles.{ensemble}
use Rattle.zk_client_service.specs.Rounds.{FirstTurn}
use Rattle.zk_client_service.proofs.client_service.ClientService.turn_all.Given as goal

abbrev pub invariant-servers : goal.invariant-servers
invariant-servers g l = FirstTurn g.S.Storage.may_recover g.S.Storage.boots l.index l.fn.now (ensemble l.initial.self) (ensemble l.self) l.waits
