use Rattle.std.proofs.Common.{rules, arith}
use Rattle.std.proofs.lemmas.Grind.{common_steps}
use Rattle.zk_client_service.specs.Ports.{cut_off, ports_of}
use Rattle.zk_client_service.proofs.Changing.{cut_off_is, one_more_port}
use Rattle.zk_client_service.proofs.client_service.cut_off.Goals as goal

pub loop-index-preserved : goal.loop-index-preserved
loop-index-preserved c = record {
  ports = one_more_port (cut_off c.args.selection) (ports_of c.args.ports.now.items) c.loop-index.ports.items c.loop-index.index c.index_mut.result.now c.cut_off.new.self
      c.loop-index.invariant.ports (search rules) (search rules)
      (cut_off_is c.args.selection c.index_mut.result.now c.cut_off.new.self c.cut_off.ensures.connections c.cut_off.ensures.hub);
  count = grind (arith, common_steps);
}
