use Rattle.std.proofs.Common.{rules}
use Rattle.zk_client_service.specs.Ports.{cut_off}
use Rattle.zk_client_service.proofs.Changing.{changed_is, cut_off_is}
use Rattle.zk_client_service.proofs.client_service.cut_off_at.Goals as goal

pub returns-clause-ports : goal.returns-clause-ports
returns-clause-ports c =
    changed_is (cut_off c.args.selection) c.args.ports.now.items c.args.index c.index_mut.result.now c.cut_off.new.self (search rules) (search rules)
    (cut_off_is c.args.selection c.index_mut.result.now c.cut_off.new.self c.cut_off.ensures.connections c.cut_off.ensures.hub)
