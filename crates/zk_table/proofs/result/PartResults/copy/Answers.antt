use Rattle.std.proofs.Common.{◌++◌, ◌∷◌, [], sym, ap₂, ◌∙◌}
use Rattle.std.proofs.lemmas.List.{take_more}
use Rattle.zk_table.proofs.result.PartResults.copy.Goals as goal

pub loop-part-preserved : goal.loop-part-preserved
loop-part-preserved c =
    c.in_ok-push.ensures.items
    ∙ ap₂ (λ parts part. parts ++ part ∷ []) c.loop-part.invariant (c.in_ok-copy.ensures ∙ c.part-item.is)
    ∙ sym (take_more c.deref-part-items.result.now c.loop-part.part-index c.part-item.result c.loop-part-test.true)
