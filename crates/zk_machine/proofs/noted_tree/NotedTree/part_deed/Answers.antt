use Rattle.std.proofs.Common.{refl}
use Rattle.zk_machine.proofs.PreimageLaws.{begun_changes, begun_undone}
use Rattle.zk_machine.proofs.noted_tree.NotedTree.part_deed.Goals as goal

pub returns-clause-changes : goal.returns-clause-changes
returns-clause-changes c =
    begun_changes c.begin.new.self.touched c.begin.ensures.idle c.begin.new.self.tree c.args.self.now.tree c.begin.ensures.tree _ _ c.in_ok-answer.ensures.before _ (c.in_ok-deed.ensures.changes refl) _ c.deed.ensures.tree

pub returns-clause-before : goal.returns-clause-before
returns-clause-before c =
    begun_undone c.begin.new.self.touched c.begin.ensures.idle c.begin.new.self.tree c.args.self.now.tree c.begin.ensures.tree _ _ c.in_ok-answer.ensures.before _ c.in_ok-deed.ensures.touched _ c.deed.ensures.tree
