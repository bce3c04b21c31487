use Rattle.zk_replay.proofs.Turns.{all_applied, all_found, applies_on, finds_on}
use Rattle.zk_replay.proofs.done.find_parts.Goals as goal

pub loop-part-preserved : goal.loop-part-preserved
loop-part-preserved c = record {
  nodes =
      applies_on c.args.txn.now c.loop-part.drafts c.find_part.new.drafts _ c.args.parts.now c.loop-part.part-index c.part-item.result c.loop-part-test.true c.part-item.is c.in_ok-done.ensures.nodes c.loop-part.invariant.nodes;
  done =
      finds_on c.args.txn.now c.loop-part.drafts c.find_part.new.drafts c.args.parts.now c.loop-part.part-index c.part-item.result c.loop-part.done _ _ c.loop-part-test.true c.part-item.is c.in_ok-done.ensures.nodes c.in_ok-done.ensures.done c.loop-part.invariant.done;
}

pub returns-clause-nodes : goal.returns-clause-nodes
returns-clause-nodes c = all_applied c.args.txn.now c.loop-part.drafts _ c.args.parts.now c.loop-part.part-index c.loop-part-test.false c.loop-part.invariant.nodes

pub returns-clause-done : goal.returns-clause-done
returns-clause-done c = all_found c.args.txn.now c.loop-part.drafts c.args.parts.now c.loop-part.part-index c.loop-part.done _ c.loop-part-test.false c.loop-part.invariant.done
