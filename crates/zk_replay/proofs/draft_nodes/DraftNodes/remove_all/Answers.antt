use Rattle.zk_replay.proofs.Turning.{removes_on, all_removed}
use Rattle.zk_replay.proofs.draft_nodes.DraftNodes.remove_all.Goals as goal

pub loop-path-preserved : goal.loop-path-preserved
loop-path-preserved c =
    removes_on c.loop-path.self c.remove_path.new.self _ c.args.paths.now c.loop-path.path-index c.path-item.result c.loop-path-test.true c.path-item.is c.remove_path.ensures c.loop-path.invariant

pub returns : goal.returns
returns c = all_removed c.loop-path.self _ c.args.paths.now c.loop-path.path-index c.loop-path-test.false c.loop-path.invariant
