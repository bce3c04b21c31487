use Rattle.zk_fold.proofs.Planting.{all_planted}
use Rattle.zk_fold.proofs.node_index.NodeIndex.new.Goals as goal

pub returns : goal.returns
returns c =
    all_planted c.in_ok-forest.forest c.put.new.self c.put-2.new.self c.in_ok-root.root c.in_ok-fixed_path.field-0 c.in_ok-fixed_path-2.field-0 c.in_ok-first.field-0 c.in_ok-first-2.field-0 c.in_ok-first-3.field-0
    c.in_ok-forest.ensures c.in_ok-root.ensures c.in_ok-first.ensures
    c.in_ok-put.ensures c.in_ok-fixed_path.ensures c.in_ok-first-2.ensures
    c.in_ok-put-2.ensures c.in_ok-fixed_path-2.ensures c.in_ok-first-3.ensures
