use Rattle.std.proofs.Common.{sym, subst}
use Rattle.std.specs.FinMap as finite
use Rattle.zk_table.specs.States.{NodeMap}
use Rattle.zk_tree.specs.Owners.{IsOwned}
use Rattle.zk_tree.proofs.Owned.{owned-alone}
use Rattle.zk_tree.proofs.tree.Tree.rooted.Goals as goal

pub invariant_of-result : goal.invariant_of-result
invariant_of-result c =
    subst (λ (n : NodeMap). IsOwned n c.new-2.result) (sym c.in_ok-branches.ensures) (subst (IsOwned (finite.insert finite.empty c.args.root c.args.node)) (sym c.new-2.ensures) (owned-alone c.args.root c.args.node c.requires.root c.requires.free))
