use Rattle.std.proofs.Common.{◌≡◌, ap, sym, subst, ◌∙◌}
use Rattle.std.specs.FinMap as finite
use Rattle.zk_table.specs.States.{NodeMap}
use Rattle.zk_requests.specs.Overlays.{nodes_over, placed, IsCounted, IsRecount}
use Rattle.zk_requests.proofs.Laying.{over_both, both_counted}
use Rattle.zk_requests.proofs.overlay.Overlay.shaded.Goals as goal
use Rattle.zk_requests.proofs.overlay.Overlay.shaded.Goals.{In_ok-set-2}

recount : (c : In_ok-set-2) → IsRecount (nodes_over c.self.inside.shades c.self.inside.tree.now) (placed c.args.parent.now c.args.above.node (placed c.args.path.now c.args.own.node (nodes_over c.self.inside.shades c.self.inside.tree.now))) c.args.path.now c.args.parent.now c.args.own.children c.args.above.children
recount c = subst (λ (m : NodeMap). IsRecount m (placed c.args.parent.now c.args.above.node (placed c.args.path.now c.args.own.node m)) c.args.path.now c.args.parent.now c.args.own.children c.args.above.children) (sym c.self.view_is) c.requires

written : (c : In_ok-set-2) → c.set-2.new.self ≡ finite.insert (finite.insert c.self.inside.shades c.args.path.now c.args.own) c.args.parent.now c.args.above
written c = c.in_ok-set-2.ensures ∙ ap (λ s. finite.insert s c.args.parent.now c.args.above) c.in_ok-set.ensures

pub invariant_of-result : goal.invariant_of-result
invariant_of-result c = subst (λ s. IsCounted s c.self.inside.tree.now) (sym (written c)) (both_counted c.self.inside.shades c.self.inside.tree.now c.self.invariant c.args.path.now c.args.parent.now c.args.own c.args.above (recount c))

pub returns : goal.returns
returns c =
    ap (λ s. nodes_over s c.self.inside.tree.now) (written c)
    ∙ over_both c.self.inside.shades c.self.inside.tree.now c.self.invariant c.args.path.now c.args.parent.now c.args.own c.args.above (recount c)
    ∙ ap (λ m. placed c.args.parent.now c.args.above.node (placed c.args.path.now c.args.own.node m)) c.self.view_is
