use Rattle.std.proofs.Common.{◌≡◌, length, drop}
use Rattle.std.specs.FinMap.{entries}
use Rattle.zk_machine.specs.Preimages.{all_noted}
use Rattle.zk_machine.proofs.preimages.Preimages.note_all.Given as goal

abbrev pub invariant-loop-path : goal.invariant-loop-path
invariant-loop-path l = all_noted l.self (drop (length l.yielded) (entries l.fn.others)) ≡ all_noted l.fn.self (entries l.fn.others)
