use Rattle.std.proofs.Common.{rules, ◌∙◌, ◌<◌, ◌+◌, ap, sym, drop, length}
use Rattle.zk_host.specs.WatchedTrees.{after_entries}
use Rattle.zk_replicas.proofs.Lent.{next_one}
use Rattle.zk_host.proofs.watched_tree.WatchedTree.deliver_some.Goals as goal

pub loop-index-preserved : goal.loop-index-preserved
loop-index-preserved c =
    let entries = c.args.entries.now in
    let below : c.loop-index.index < length entries = search rules in
    let next = next_one entries c.tags-tags.result.now c.as_slice-txns.result.now c.loop-index.index c.index-txns-index.result c.tags-tags.ensures (c.as_slice-txns.ensures ∙ c.in_ok-read.ensures.txns ∙ c.txns.ensures) below c.index-txns-index.is in
    ap (λ r. after_entries r (drop (c.loop-index.index + 1) entries)) c.in_ok-deliver.ensures ∙ ap (after_entries c.loop-index.self) (sym next) ∙ c.loop-index.invariant
