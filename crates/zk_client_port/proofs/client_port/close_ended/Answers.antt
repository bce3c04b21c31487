use Rattle.std.proofs.Common.{rules}
use Rattle.zk_client_port.specs.Ports.{closed_if}
use Rattle.zk_client_port.proofs.Each.{one_more}
use Rattle.zk_client_port.proofs.client_port.close_ended.Goals as goal

pub loop-index-preserved : goal.loop-index-preserved
loop-index-preserved c =
    one_more (closed_if c.args.ended.now) c.args.connections.now.items c.loop-index.connections.items c.loop-index.index c.index_mut.result.now c.close_if.new.connection
    c.loop-index.invariant (search rules) (search rules) c.close_if.ensures
