use Rattle.std.proofs.Common.{◌≡◌, Some, sym, ap, subst, ◌∙◌}
use Rattle.zk_table.specs.States.{NodeMap}
use Rattle.zk_tree.specs.Owners.{IsOwned}
use Rattle.zk_tree.specs.Trees.{owner_at}
use Rattle.zk_tree.proofs.Owned.{owned-changed}
use Rattle.zk_tree.proofs.tree.Tree.change_by_text.Goals as goal

pub invariant_of-self : goal.invariant_of-self
invariant_of-self c =
    let m = c.self.inside.branches in
    let path = c.args.path.now in
    let same : owner_at m path ≡ Some c.args.node.owner = ap (λ m. owner_at m path) c.self.view_is ∙ c.requires in
    subst (λ (n : NodeMap). IsOwned n c.self.inside.owners) (sym c.change.ensures.changed) (owned-changed m c.self.inside.owners path c.args.node c.self.invariant same)
