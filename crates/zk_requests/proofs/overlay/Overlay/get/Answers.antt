use Rattle.std.proofs.Common.{ap, sym, ◌∙◌}
use Rattle.std.specs.FinMap as finite
use Rattle.zk_requests.proofs.Laying.{shown, get-nodes_over}
use Rattle.zk_requests.proofs.overlay.Overlay.get.Goals as goal

pub returns-in-Some : goal.returns-in-Some
returns-in-Some c =
    c.as_ref.ensures.value
    ∙ ap (λ x. shown x (finite.get c.self.inside.tree.now c.args.path.now)) c.in-Some.ensures
    ∙ sym (get-nodes_over c.self.inside.shades c.self.inside.tree.now c.args.path.now)
    ∙ ap (λ m. finite.get m c.args.path.now) c.self.view_is

pub returns-in-None : goal.returns-in-None
returns-in-None c =
    c.get_by_text.ensures.node
    ∙ ap (λ x. shown x (finite.get c.self.inside.tree.now c.args.path.now)) c.in-None.ensures
    ∙ sym (get-nodes_over c.self.inside.shades c.self.inside.tree.now c.args.path.now)
    ∙ ap (λ m. finite.get m c.args.path.now) c.self.view_is
