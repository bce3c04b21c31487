use Rattle.std.proofs.Common.{sym, arith}
use Rattle.zk_machine.proofs.Restores.{clear_childless, clear_below, clear_next}
use Rattle.zk_machine.proofs.restore.clear.Goals as goal

pub clear_at-requires-clause-childless : goal.clear_at-requires-clause-childless
clear_at-requires-clause-childless c =
    clear_childless c.args.notes.now c.loop-at.at c.index-notes-at.result c.loop-at-test.true c.loop-at.invariant.0 (sym c.index-notes-at.is) c.requires.sorted c.requires.slashes c.args.tree.now c.loop-at.tree c.loop-at.invariant.1 c.loop-at.invariant.2 c.stands-in-loop-at.ensures c.requires.root c.requires.state

pub clear_at-requires-clause-below : goal.clear_at-requires-clause-below
clear_at-requires-clause-below c =
    clear_below c.args.notes.now c.loop-at.at c.index-notes-at.result c.loop-at-test.true c.loop-at.invariant.0 (sym c.index-notes-at.is) c.requires.sorted c.requires.slashes c.args.tree.now c.loop-at.tree c.loop-at.invariant.1 c.loop-at.invariant.2 c.stands-in-loop-at.ensures c.requires.root c.requires.state

pub loop-at-preserved : goal.loop-at-preserved
loop-at-preserved c = (
  omega (arith, c.loop-at.invariant.0),
  clear_next c.args.notes.now c.loop-at.at c.index-notes-at.result c.loop-at-test.true c.loop-at.invariant.0 (sym c.index-notes-at.is) c.requires.sorted c.requires.slashes c.args.tree.now c.loop-at.tree c.loop-at.invariant.1 c.clear_at.new.tree c.clear_at.ensures,
  c.loop-at.invariant.2,
)
