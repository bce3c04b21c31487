use Rattle.std.proofs.Common.{◌≡◌, true, sym, ap, ◌∙◌}
use Rattle.std.specs.FinMap as finite
use Rattle.zk_tree.specs.Branches.{nodes_of}
use Rattle.zk_tree.proofs.Branching.{contains_key-nodes_of, branching_changed, nodes_changed, get-nodes_of}
use Rattle.zk_tree.proofs.branches.Branches.change.Goals as goal

pub change-requires : goal.change-requires
change-requires c = sym (contains_key-nodes_of c.self.inside.slots c.args.path.now) ∙ ap (λ m. finite.contains_key m c.args.path.now) c.self.view_is ∙ c.requires

pub invariant_of-self : goal.invariant_of-self
invariant_of-self c =
    let there : finite.contains_key (nodes_of c.self.inside.slots) c.args.path.now ≡ true = ap (λ m. finite.contains_key m c.args.path.now) c.self.view_is ∙ c.requires in
    branching_changed c.self.inside.slots c.args.path.now c.args.node c.self.invariant there c.change.new.self c.change.ensures.changed

pub returns-clause-was : goal.returns-clause-was
returns-clause-was c = ap (λ m. finite.get m c.args.path.now) (sym c.self.view_is) ∙ get-nodes_of c.self.inside.slots c.args.path.now ∙ c.change.ensures.was

pub returns-clause-changed : goal.returns-clause-changed
returns-clause-changed c =
    let there : finite.contains_key (nodes_of c.self.inside.slots) c.args.path.now ≡ true = ap (λ m. finite.contains_key m c.args.path.now) c.self.view_is ∙ c.requires in
    nodes_changed c.self.inside.slots c.args.path.now c.args.node c.self.invariant there c.change.new.self c.change.ensures.changed ∙ ap (λ m. finite.insert m c.args.path.now c.args.node) c.self.view_is
