use Rattle.std.proofs.Common.{rules, ◌∙◌, ◌<◌, ◌+◌, ap, sym, drop, length}
use Rattle.zk_model.specs.Ensembles.{take_all}
use Rattle.zk_replicas.proofs.Lent.{next_one}
use Rattle.zk_replicas.proofs.replica.Replica.take_all.Goals as goal

pub loop-index-preserved : goal.loop-index-preserved
loop-index-preserved c =
    let entries = c.args.entries.now in
    let below : c.loop-index.index < length entries = search rules in
    let next = next_one entries c.tags-tags.result.now c.as_slice-txns.result.now c.loop-index.index c.index-txns-index.result c.tags-tags.ensures (c.as_slice-txns.ensures ∙ c.in_ok-read.ensures.txns ∙ c.txns.ensures) below c.index-txns-index.is in
    ap (λ r. take_all r (drop (c.loop-index.index + 1) entries)) c.in_ok-take_in.ensures ∙ ap (take_all c.loop-index.self) (sym next) ∙ c.loop-index.invariant
