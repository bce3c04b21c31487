use Rattle.std.proofs.Common.{take}
use Rattle.std.specs.List.{AllByRecursion}
use Rattle.zk_snapshot.specs.Snapshots.{IsStored}
use Rattle.zk_snapshot_writer.proofs.lengths.are_stored.Given as goal

abbrev pub invariant-loop-stored : goal.invariant-loop-stored
invariant-loop-stored l = AllByRecursion IsStored (take l.stored-index l.nodes)
