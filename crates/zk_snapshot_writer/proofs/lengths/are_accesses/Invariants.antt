use Rattle.std.proofs.Common.{take}
use Rattle.std.specs.List.{AllByRecursion}
use Rattle.zk_snapshot.specs.Snapshots.{IsAccess}
use Rattle.zk_snapshot_writer.proofs.lengths.are_accesses.Given as goal

abbrev pub invariant-loop-access : goal.invariant-loop-access
invariant-loop-access l = AllByRecursion IsAccess (take l.access-index l.accesses)
