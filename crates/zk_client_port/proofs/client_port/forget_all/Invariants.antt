-- The connections so far are forgotten.
use Rattle.std.proofs.Common.{◌≡◌, drop}
use Rattle.zk_client_port.specs.Ports.{all_detached, without_requests}
use Rattle.zk_client_port.proofs.client_port.forget_all.Given as goal

abbrev pub invariant-loop-number : goal.invariant-loop-number
invariant-loop-number l = record {
  hub : without_requests (drop l.number-index l.numbers) l.hub ≡ without_requests l.fn.numbers l.fn.hub;
  sessions : all_detached (drop l.number-index l.numbers) l.sessions ≡ all_detached l.fn.numbers l.fn.sessions;
}
