use Rattle.std.proofs.Common.{rules}
use Rattle.zk_client_port.specs.Ports.{cut_off_if}
use Rattle.zk_client_port.proofs.Each.{one_more}
use Rattle.zk_client_port.proofs.client_port.cut_off_in.Goals as goal

pub loop-index-preserved : goal.loop-index-preserved
loop-index-preserved c =
    one_more (cut_off_if c.args.selection) c.args.connections.now.items c.loop-index.connections.items c.loop-index.index c.index_mut.result.now c.cut_off_if.new.connection
    c.loop-index.invariant (search rules) (search rules) c.cut_off_if.ensures
