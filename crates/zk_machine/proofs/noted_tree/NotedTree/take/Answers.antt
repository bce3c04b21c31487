use Rattle.std.proofs.Common.{sym, ◌∙◌}
use Rattle.zk_machine.specs.Preimages.{noted}
use Rattle.zk_machine.proofs.PreimageLaws.{take_before}
use Rattle.zk_machine.proofs.noted_tree.NotedTree.take.Goals as goal

pub returns-clause-before : goal.returns-clause-before
returns-clause-before c =
    take_before c.args.self.now.touched _ c.args.self.now.tree _ c.args.path.now
    (c.in_ok-note.ensures ∙ (λ i. noted c.args.self.now.touched (c.in_ok-noted.ensures i) (sym c.take-node.ensures.was i)))
    c.take-node.ensures.gone
