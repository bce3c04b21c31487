use Rattle.zk_replay.proofs.Turns.{applies_on, all_applied}
use Rattle.zk_replay.proofs.rules.apply_parts.Goals as goal

pub loop-part-preserved : goal.loop-part-preserved
loop-part-preserved c =
    applies_on c.args.txn.now c.loop-part.drafts c.apply_part.new.drafts _ c.args.parts.now c.loop-part.part-index c.part-item.result c.loop-part-test.true c.part-item.is c.in_ok-apply_part.ensures c.loop-part.invariant

pub returns : goal.returns
returns c = all_applied c.args.txn.now c.loop-part.drafts _ c.args.parts.now c.loop-part.part-index c.loop-part-test.false c.loop-part.invariant
