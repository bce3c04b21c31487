use Rattle.std.proofs.Common.{ap, sym, ◌∙◌}
use Rattle.std.specs.FinMap as finite
use Rattle.zk_machine.specs.Preimages.{noted}
use Rattle.zk_machine.proofs.PreimageLaws.{put_before}
use Rattle.zk_machine.proofs.noted_tree.NotedTree.put.Goals as goal

pub returns-clause-before : goal.returns-clause-before
returns-clause-before c =
    put_before c.args.self.now.touched _ c.args.self.now.tree _ c.args.path.now
    (c.in_ok-note.ensures ∙ (λ i. noted c.args.self.now.touched (c.in_ok-noted.ensures i) (sym c.requires.free i)))
    c.args.node
    (c.in-Ok.ensures.there ∙ ap (λ k. finite.insert c.args.self.now.tree k c.args.node) c.in_ok-place.ensures)
