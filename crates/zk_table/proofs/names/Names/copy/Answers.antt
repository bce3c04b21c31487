use Rattle.std.proofs.Common.{◌++◌, ◌∷◌, [], sym, ap₂, ◌∙◌}
use Rattle.std.proofs.lemmas.List.{take_more}
use Rattle.zk_table.proofs.names.Names.copy.Goals as goal

pub loop-text-preserved : goal.loop-text-preserved
loop-text-preserved c =
    c.in_ok-push.ensures.items
    ∙ ap₂ (λ texts text. texts ++ text ∷ []) c.loop-text.invariant (c.in_ok-copy.ensures ∙ c.text-item.is)
    ∙ sym (take_more c.deref-text-items.result.now c.loop-text.text-index c.text-item.result c.loop-text-test.true)
