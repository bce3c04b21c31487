use Rattle.std.proofs.Common.{◌≡◌, ◌∙◌, ◌++◌, ◌∷◌, [], sym, ap₂}
use Rattle.std.proofs.lemmas.List.{take_all, take_more}
use Rattle.std.specs.FinMap.{entries}
use Rattle.zk_table.specs.States.{path_cmp}
use Rattle.zk_table.proofs.Sorted.{sorted_from_entries, kept_from_entries}
use Rattle.zk_table.proofs.nodes.Nodes.copy.Goals as goal
use Rattle.zk_table.proofs.nodes.Nodes.copy.Goals.{After-loop-path}

all_copied : (c : After-loop-path) → c.loop-path.entries.items ≡ entries c.args.self.now
all_copied c = c.loop-path.invariant ∙ take_all c.loop-path.path-index c.as_slice-path-items.result.now c.loop-path-test.false ∙ c.as_slice-path-items.ensures

pub invariant_of-result : goal.invariant_of-result
invariant_of-result c = sorted_from_entries path_cmp _ _ (all_copied c)

pub returns : goal.returns
returns c = kept_from_entries path_cmp _ _ (all_copied c)

pub loop-path-preserved : goal.loop-path-preserved
loop-path-preserved c =
    c.in_ok-push.ensures.items
    ∙ ap₂ (λ es e. es ++ e ∷ []) c.loop-path.invariant (ap₂ (λ path node. (path, node)) c.in_ok-path.ensures c.in_ok-node.ensures ∙ c.loop-path-item.is)
    ∙ sym (take_more c.as_slice-path-items.result.now c.loop-path.path-index c.loop-path-item.result c.loop-path-test.true)
