use Rattle.std.proofs.Common.{◌≡◌, rules, sym, ap, ◌∙◌, codes}
use Rattle.std.specs.FinMap as finite
use Rattle.zk_replay.proofs.table.rooted.Goals as goal

pub returns-clause-nodes : goal.returns-clause-nodes
returns-clause-nodes c =
    let path : c.args.draft.now.path ≡ codes "/" = search rules in
    ap (λ t. t.state.nodes) c.in_ok-from_root.ensures
    ∙ ap (finite.insert finite.empty (codes "/")) c.in_ok-node.ensures.node
    ∙ ap (λ p. finite.insert finite.empty p c.args.draft.now.node) (sym path)
