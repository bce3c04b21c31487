use Rattle.std.proofs.Common.{sym, ap, ◌∙◌}
use Rattle.zk_machine.specs.Preimages.{noted}
use Rattle.zk_machine.proofs.PreimageLaws.{put_before}
use Rattle.zk_machine.proofs.noted_tree.NotedTree.change.Goals as goal

pub returns-clause-before : goal.returns-clause-before
returns-clause-before c =
    put_before c.args.self.now.touched _ c.args.self.now.tree _ c.args.path
    (c.in_ok-note.ensures ∙ ap (noted c.args.self.now.touched c.args.path) (sym c.change-old.ensures.was))
    c.args.node
    c.change-old.ensures.changed
