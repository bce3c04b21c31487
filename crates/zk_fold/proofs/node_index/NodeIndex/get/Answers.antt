use Rattle.std.proofs.Common.{sym, ap, ◌∙◌}
use Rattle.std.specs.FinMap as finite
use Rattle.std.specs.Option.{option_map}
use Rattle.zk_fold.proofs.Counting.{get-nodes_at}
use Rattle.zk_fold.proofs.node_index.NodeIndex.get.Goals as goal

pub returns-in-Some : goal.returns-in-Some
returns-in-Some c =
    let path = c.args.path.now in
    ap (option_map (λ p. p.node)) c.in-Some.ensures ∙ sym (get-nodes_at c.self.inside.places path) ∙ ap (λ n. finite.get n path) c.self.view_is

pub returns-in-None : goal.returns-in-None
returns-in-None c =
    let path = c.args.path.now in
    ap (option_map (λ p. p.node)) c.in-None.ensures ∙ sym (get-nodes_at c.self.inside.places path) ∙ ap (λ n. finite.get n path) c.self.view_is
