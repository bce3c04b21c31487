use Rattle.std.proofs.Common.{◌≡◌, length, w64, to_z, of_z, rules, sym, ap, subst, ◌∙◌}
use Rattle.std.proofs.lemmas.Int.{to_z-of_z}
use Rattle.std.specs.FinMap as finite
use Rattle.zk_table.specs.States.{NodeMap, children_of}
use Rattle.zk_tree.specs.Owners.{IsOwned, without_owned}
use Rattle.zk_tree.proofs.Owned.{owned-taken, parent_there}
use Rattle.zk_tree.proofs.tree.Tree.take.Goals as goal

pub invariant_of-self : goal.invariant_of-self
invariant_of-self c =
    let m = c.self.inside.branches in
    let o = c.self.inside.owners in
    let path = c.args.path.now in
    let node = c.take-node.result in
    let owner : to_z w64 (of_z w64 node.owner) ≡ node.owner = to_z-of_z w64 node.owner (search rules) in
    let above = parent_there path c.requires.below in
    let none : length (children_of m path) ≡ 0 = ap (λ m. length (children_of m path)) c.self.view_is ∙ c.requires.childless in
    let lost : c.lose.new.self ≡ without_owned o node.owner path = c.lose.ensures ∙ ap (λ s. without_owned o s c.text.result.now) owner ∙ ap (without_owned o node.owner) c.text.ensures.text in
    subst (λ (n : NodeMap). IsOwned n c.lose.new.self) (sym c.take-node.ensures.gone) (subst (IsOwned (finite.remove m path)) (sym lost) (owned-taken m o path above.0 node c.self.invariant c.take-node.ensures.was above.1 none))
