use Rattle.std.proofs.Common.{cond, None, sym, ap, ◌∙◌}
use Rattle.std.specs.FinMap as finite
use Rattle.std.specs.List.{list_any}
use Rattle.zk_replay.proofs.Turning.{at_end}
use Rattle.zk_replay.proofs.Owned.{parts_step}
use Rattle.zk_replay.specs.Owning.{part_creates}
use Rattle.zk_stored_owners.proofs.owners.Owners.forget_parts.Goals as goal

pub loop-part-preserved : goal.loop-part-preserved
loop-part-preserved c = λ q.
    parts_step c.args.parts.now c.loop-part.part-index c.part-item.result c.loop-part-test.true c.part-item.is c.loop-part.self c.forget_part.new.self q (c.forget_part.ensures q)
    ∙ c.loop-part.invariant q

pub returns : goal.returns
returns c = λ q. sym (ap (λ l. cond (list_any (part_creates q) l) None (finite.get c.loop-part.self q)) (at_end c.args.parts.now c.loop-part.part-index c.loop-part-test.false)) ∙ c.loop-part.invariant q
