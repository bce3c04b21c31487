-- The connections so far have begun.
use Rattle.std.proofs.Common.{◌≡◌, ◌++◌, map, take, drop}
use Rattle.zk_quorum_server.specs.Turns.{begun}
use Rattle.zk_quorum_server.proofs.turn.begin_turns.Given as goal

abbrev pub invariant-loop-index : goal.invariant-loop-index
invariant-loop-index l = l.connections.items ≡ map begun (take l.index l.fn.connections.items) ++ drop l.index l.fn.connections.items
