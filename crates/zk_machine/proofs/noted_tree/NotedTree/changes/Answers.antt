use Rattle.std.proofs.Common.{ℕ, List, Option, ap, ◌∙◌}
use Rattle.std.proofs.lemmas.List.{take_all}
use Rattle.zk_table.specs.declared.node.Node.{Node}
use Rattle.zk_machine.specs.declared.change.Change.{Change}
use Rattle.std.specs.FinMap as finite
use Rattle.std.specs.List.{flat_map}
use Rattle.zk_machine.specs.Changes.{compared}
use Rattle.zk_machine.proofs.PreimageLaws.{changes_noted}
use Rattle.zk_machine.proofs.noted_tree.NotedTree.changes.Goals as goal

pub returns : goal.returns
returns c =
    let f : List ℕ × Option Node → List Change = λ e. compared e.0 e.1 (finite.get c.args.self.now.tree e.0) in
    c.loop-path.invariant ∙ ap (flat_map f) (take_all c.loop-path.path-index c.as_slice-path-items.result.now c.loop-path-test.false)
    ∙ ap (flat_map f) c.as_slice-path-items.ensures.notes
    ∙ changes_noted c.args.self.now.touched c.args.self.now.tree
