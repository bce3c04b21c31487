-- The connections so far are cut off.
use Rattle.std.proofs.Common.{◌≡◌, drop}
use Rattle.zk_quorum_server.specs.Turns.{without_numbers}
use Rattle.zk_quorum_server.proofs.turn.cut_off_numbers.Given as goal

abbrev pub invariant-loop-number : goal.invariant-loop-number
invariant-loop-number l = record {
  connections : without_numbers (drop l.number-index l.numbers) l.port.connections.items ≡ without_numbers l.fn.numbers l.fn.port.connections.items;
  hub : l.port.hub ≡ l.fn.port.hub;
}
