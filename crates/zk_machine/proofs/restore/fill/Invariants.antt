use Rattle.std.proofs.Common.{◌≡◌, take}
use Rattle.zk_machine.specs.Restoring.{filled}
use Rattle.zk_machine.proofs.restore.fill.Given as goal

abbrev pub invariant-loop-path : goal.invariant-loop-path
invariant-loop-path l = l.tree ≡ filled (take l.path-index l.notes) l.fn.tree
