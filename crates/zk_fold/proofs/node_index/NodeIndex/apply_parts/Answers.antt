use Rattle.std.proofs.Common.{sym, ◌∙◌}
use Rattle.zk_fold.proofs.Deeds.{nodes_onward}
use Rattle.zk_fold.proofs.node_index.NodeIndex.apply_parts.Goals as goal

pub loop-part-preserved : goal.loop-part-preserved
loop-part-preserved c =
    sym (nodes_onward c.args.txn.now c.args.parts.now c.loop-part.part-index c.part-item.result c.loop-part.self c.apply_part.new.self c.loop-part-test.true c.part-item.is c.in_ok-apply_part.ensures) ∙ c.loop-part.invariant
