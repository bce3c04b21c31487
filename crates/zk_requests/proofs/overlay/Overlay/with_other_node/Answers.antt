use Rattle.std.proofs.Common.{◌≡◌, true, refl, ap, sym, subst, ◌∙◌}
use Rattle.std.specs.FinMap as finite
use Rattle.zk_requests.specs.Overlays.{nodes_over, count_of, IsCounted}
use Rattle.zk_requests.proofs.Laying.{over_other, other_counted}
use Rattle.zk_requests.proofs.overlay.Overlay.with_other_node.Goals as goal
use Rattle.zk_requests.proofs.overlay.Overlay.with_other_node.Goals.{In_ok-set}

there : (c : In_ok-set) → finite.contains_key (nodes_over c.self.inside.shades c.self.inside.tree.now) c.text-2.result.now ≡ true
there c = ap (λ m. finite.contains_key m c.text-2.result.now) c.self.view_is ∙ ap (finite.contains_key c.args.self) c.text-2.ensures.text ∙ c.requires

own : (c : In_ok-set) → c.child_count-children.result ≡ count_of (nodes_over c.self.inside.shades c.self.inside.tree.now) c.text-2.result.now
own c = c.child_count-children.ensures ∙ ap (count_of c.args.self) (c.text.ensures.text ∙ sym c.text-2.ensures.text) ∙ ap (λ m. count_of m c.text-2.result.now) (sym c.self.view_is)

pub invariant_of-result : goal.invariant_of-result
invariant_of-result c = subst (λ s. IsCounted s c.self.inside.tree.now) (sym c.in_ok-set.ensures) (other_counted c.self.inside.shades c.self.inside.tree.now c.self.invariant c.text-2.result.now _ c.args.node refl (there c) (own c))

pub returns : goal.returns
returns c =
    ap (λ s. nodes_over s c.self.inside.tree.now) c.in_ok-set.ensures
    ∙ over_other c.self.inside.shades c.self.inside.tree.now c.self.invariant c.text-2.result.now _ c.args.node refl (there c) (own c)
    ∙ ap (λ m. finite.insert m c.text-2.result.now c.args.node) c.self.view_is
    ∙ ap (λ k. finite.insert c.args.self k c.args.node) c.text-2.ensures.text
