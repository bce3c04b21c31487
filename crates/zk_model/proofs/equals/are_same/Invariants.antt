use Rattle.std.proofs.Common.{◌≡◌, take}
use Rattle.zk_model.proofs.equals.are_same.Given as goal

abbrev pub invariant-loop-at : goal.invariant-loop-at
invariant-loop-at g l = take l.at l.ones ≡ take l.at l.others
