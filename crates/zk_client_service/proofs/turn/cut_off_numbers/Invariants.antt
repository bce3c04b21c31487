-- The connections so far are cut off.
use Rattle.std.proofs.Common.{◌≡◌, drop}
use Rattle.zk_client_service.specs.Ports.{ports_of}
use Rattle.zk_client_service.specs.Rounds.{without_numbers}
use Rattle.zk_client_service.proofs.turn.cut_off_numbers.Given as goal

abbrev pub invariant-loop-number : goal.invariant-loop-number
invariant-loop-number l =
    without_numbers (drop l.number-index l.numbers) (ports_of l.ports.items) ≡ without_numbers l.fn.numbers (ports_of l.fn.ports.items)
