use Rattle.std.proofs.Common.{sym}
use Rattle.zk_machine.proofs.Restores.{fill_below, fill_owner, fill_next}
use Rattle.zk_machine.proofs.restore.fill.Goals as goal

pub fill_at-requires-clause-below : goal.fill_at-requires-clause-below
fill_at-requires-clause-below c = λ node comes.
    fill_below c.args.notes.now c.loop-path.path-index c.loop-path-item.result c.loop-path-test.true (sym c.loop-path-item.is) c.requires.sorted c.requires.slashes c.args.tree.now c.loop-path.tree c.loop-path.invariant c.requires.clear.0 c.requires.clear.1 c.requires.clear.2 node comes

pub fill_at-requires-clause-owner : goal.fill_at-requires-clause-owner
fill_at-requires-clause-owner c = λ node old comes.
    fill_owner c.args.notes.now c.loop-path.path-index c.loop-path-item.result c.loop-path-test.true (sym c.loop-path-item.is) c.requires.sorted c.requires.slashes c.args.tree.now c.loop-path.tree c.loop-path.invariant c.requires.clear.0 c.requires.clear.1 c.requires.clear.2 node comes old

pub loop-path-preserved : goal.loop-path-preserved
loop-path-preserved c =
    fill_next c.args.notes.now c.loop-path.path-index c.loop-path-item.result c.loop-path-test.true (sym c.loop-path-item.is) c.requires.sorted c.requires.slashes c.args.tree.now c.loop-path.tree c.loop-path.invariant c.fill_at.new.tree c.in_ok-fill_at.ensures
