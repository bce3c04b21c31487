-- The remaining nodes lead from what is known so far to what is known after all.
use Rattle.std.proofs.Common.{◌≡◌, drop}
use Rattle.zk_session_commands.specs.FirstKnown.{nodes_in}
use Rattle.zk_session_commands.proofs.base_known.add_nodes.Given as goal

abbrev pub invariant-loop-stored : goal.invariant-loop-stored
invariant-loop-stored l = nodes_in l.fn.first.zxid l.known (drop l.stored-index l.fn.nodes) ≡ nodes_in l.fn.first.zxid l.fn.known l.fn.nodes
