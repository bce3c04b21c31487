-- The parts so far.
use Rattle.std.proofs.Common.{take}
use Rattle.std.specs.List.{AllByRecursion}
use Rattle.zk_format.specs.Listings.{IsListedSub, SubHasCountedAcls}
use Rattle.zk_format.proofs.ranges.parts_are_listed.Given as goal

abbrev pub invariant-loop-part : goal.invariant-loop-part
invariant-loop-part l = AllByRecursion (λ part. SubHasCountedAcls part → IsListedSub part) (take l.part-index l.parts)
