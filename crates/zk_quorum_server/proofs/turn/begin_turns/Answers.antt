use Rattle.std.proofs.Common.{rules}
use Rattle.zk_quorum_server.specs.Turns.{begun}
use Rattle.zk_client_port.proofs.Each.{one_more}
use Rattle.zk_quorum_server.proofs.turn.begin_turns.Goals as goal

pub loop-index-preserved : goal.loop-index-preserved
loop-index-preserved c =
    one_more begun c.args.connections.now.items c.loop-index.connections.items c.loop-index.index c.index_mut.result.now c.begin_turn.new.connection
    c.loop-index.invariant (search rules) (search rules) c.begin_turn.ensures
