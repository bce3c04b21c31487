-- The places so far.
use Rattle.std.proofs.Common.{◌≡◌, None, fold, take}
use Rattle.zk_verification.specs.Breaks.{narrowed}
use Rattle.zk_verification.proofs.breaks.reach_of.Given as goal

abbrev pub invariant-loop-place : goal.invariant-loop-place
invariant-loop-place l = l.reach ≡ fold (narrowed l.zxid) None (take l.place-index l.breaks)
