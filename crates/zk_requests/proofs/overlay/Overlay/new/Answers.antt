use Rattle.std.proofs.Common.{ap, sym, subst, ◌∙◌}
use Rattle.zk_requests.specs.Overlays.{nodes_over, IsCounted}
use Rattle.zk_requests.proofs.Laying.{over-empty, counted-empty}
use Rattle.zk_requests.proofs.overlay.Overlay.new.Goals as goal

pub invariant_of-result : goal.invariant_of-result
invariant_of-result c = subst (λ s. IsCounted s c.args.tree.now) (sym c.new.ensures) (counted-empty c.args.tree.now)

pub returns : goal.returns
returns c = ap (λ s. nodes_over s c.args.tree.now) c.new.ensures ∙ over-empty c.args.tree.now
